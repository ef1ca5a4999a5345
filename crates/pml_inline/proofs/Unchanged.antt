-- Tokens without the word `inline`.
use Rattle.std.proofs.Common.{◌≡◌, ℕ, Bool, true, false, ◌&&◌, ◌||◌, cond, List, [], ◌∷◌, Option, Some, None, refl, ap, sym, ◌∙◌}
use Rattle.std.specs.Prelude.{find}
use Rattle.std.specs.Str.{bytes_eq}
use Rattle.std.proofs.lemmas.Bool.{false≢true}
use Rattle.pml_token.specs.declared.token.Kind.TheVariants.{OpenParen}
use Rattle.pml_token.specs.Word.{Word}
use Rattle.promela_text.specs.Inlines.{is_inline, has_inline, is_name, begins_as, Inline, definition, callee, braces_behind, Expands}
use Rattle.pml_inline.specs.Expansion.{definition_turn, definitions, join_given, itself, text_turn, texts, limited}
use Rattle.pml_inline.proofs.Expanding.{are_left}
use Rattle.pml_inline.proofs.Whole.{expansion_is}

neither : (b c : Bool) → (b || c) ≡ false → (b ≡ false) × (c ≡ false)
neither true c e = absurd (false≢true (sym e))
neither false c e = (refl, e)

no_definitions : (ts : List Word) → has_inline ts ≡ false → definitions ts 0 ≡ Some []
no_definitions [] h = refl
no_definitions (w ∷ ws) h =
    let both : (is_inline w ≡ false) × (has_inline ws ≡ false) = neither (is_inline w) (has_inline ws) h in
    ap (λ (b : Bool). definition_turn 0 b (definition ws) (definitions ws)) both.0 ∙ no_definitions ws both.1

calls_nothing : (w : Word) (ws : List Word) → callee [] w ws ≡ None
unfolding callee
calls_nothing w ws = by_test (is_name w && begins_as OpenParen ws)
  where
    by_test : (b : Bool) → cond b (find (λ (d : Inline). bytes_eq w.text d.name) []) None ≡ None
    by_test true = refl
    by_test false = refl

unchanged : (ts : List Word) (n : ℕ) → has_inline ts ≡ false → texts ts [] [] n 0 ≡ Some (record { tokens = ts; count = 0 })
unchanged [] n h = refl
unchanged (w ∷ ws) n h =
    let both : (is_inline w ≡ false) × (has_inline ws ≡ false) = neither (is_inline w) (has_inline ws) h in
    ap (λ (b : Bool). text_turn 0 b (callee [] w ws) w ws (texts ws) [] [] n 0) both.0
    ∙ ap (λ (o : Option Inline). text_turn 0 false o w ws (texts ws) [] [] n 0) (calls_nothing w ws)
    ∙ ap (join_given (itself w)) (unchanged ws (braces_behind n w) both.1)

pub own_expansion : (ts : List Word) → has_inline ts ≡ false → Expands ts ts
own_expansion ts h = are_left ts ts (expansion_is ts [] (no_definitions ts h) refl ∙ ap limited (unchanged ts 0 h))
