-- What is left out between two items, a token at a time.
use Rattle.std.proofs.Common.{◌≡◌, ◌+◌, ◌≤◌, true, false, List, [], ◌∷◌, length, drop, refl, arith}
use Rattle.pml_token.specs.Word.{Word}
use Rattle.pml_token.specs.declared.token.Kind.TheVariants as k
use Rattle.pml_expression.specs.Reading.{next, pick, sees}
use Rattle.promela_grammar.specs.Actions.{is_separator}
use Rattle.pml_syntax.specs.ReadingStatements.{skip_separators, leads_to_run}
use Rattle.pml_syntax.specs.ReadingUnits.{skip_semicolons}

pub skip_stops : (ts : List Word) → is_separator (next ts) ≡ false → skip_separators ts ≡ ts
unfolding skip_separators pick
skip_stops [] h = refl
skip_stops (w ∷ ws) h = rw h refl

pub skip_goes : (ts : List Word) → is_separator (next ts) ≡ true → (skip_separators (drop 1 ts) ≡ skip_separators ts) × (length (drop 1 ts) + 1 ≤ length ts)
unfolding skip_separators pick
skip_goes [] h = absurd cc
skip_goes (w ∷ ws) h = (rw h refl, omega arith)

pub skip_done : (ts : List Word) → length ts ≤ 0 → skip_separators ts ≡ ts
unfolding skip_separators
skip_done [] h = refl
skip_done (w ∷ ws) h = absurd (omega arith)

pub semicolons_stop : (ts : List Word) → sees k.Semicolon ts ≡ false → skip_semicolons ts ≡ ts
unfolding skip_semicolons pick
semicolons_stop [] h = refl
semicolons_stop (w ∷ ws) h = rw h refl

pub semicolons_go : (ts : List Word) → sees k.Semicolon ts ≡ true → (skip_semicolons (drop 1 ts) ≡ skip_semicolons ts) × (length (drop 1 ts) + 1 ≤ length ts)
unfolding skip_semicolons pick sees
semicolons_go [] h = absurd cc
semicolons_go (w ∷ ws) h = (rw h refl, omega arith)

pub semicolons_done : (ts : List Word) → length ts ≤ 0 → skip_semicolons ts ≡ ts
unfolding skip_semicolons
semicolons_done [] h = refl
semicolons_done (w ∷ ws) h = absurd (omega arith)

pub run_stops : (ts : List Word) → sees k.OpenParen ts ≡ false → leads_to_run ts ≡ sees k.Run ts
unfolding leads_to_run pick sees
run_stops [] h = refl
run_stops (w ∷ ws) h = rw h refl

pub run_goes : (ts : List Word) → sees k.OpenParen ts ≡ true → (leads_to_run (drop 1 ts) ≡ leads_to_run ts) × (length (drop 1 ts) + 1 ≤ length ts)
unfolding leads_to_run pick sees
run_goes [] h = absurd cc
run_goes (w ∷ ws) h = (rw h refl, omega arith)

pub run_done : (ts : List Word) → length ts ≤ 0 → leads_to_run ts ≡ false
unfolding leads_to_run
run_done [] h = refl
run_done (w ∷ ws) h = absurd (omega arith)
