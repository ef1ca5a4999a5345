-- The tokens of the stretches of a text are those that it is cut into.
use Rattle.std.proofs.Common.{◌≡◌, ℕ, zero, suc, ◌-◌, ◌<◌, ◌≤◌, Bool, true, false, List, [], ◌∷◌, ◌++◌, Option, Some, None, length, take, drop, sym, refl, ap, ◌∙◌, subst, length-drop, length-take-le, arith}
use Rattle.std.proofs.lemmas.Bool.{false≢true}
use Rattle.std.proofs.Math.Seq.{take-nil}
use Rattle.promela_text.specs.declared.lexeme.Lexeme.{Lexeme}
use Rattle.promela_text.specs.declared.lexeme.Lexeme.TheVariants.{Skipped, Token}
use Rattle.pml_token.specs.Word.{Word}
use Rattle.promela_text.specs.Tokens.{lexeme, IsLongest, IsCut, fresh_from, is_fresh, line_behind, word, words}
use Rattle.pml_lex.specs.Scanning.{Found, next}
use Rattle.pml_lex.proofs.Longest.{IsNext}
use Rattle.pml_lex.proofs.Scan.{next_is}
use Rattle.pml_lex.proofs.Places.{token_place}
use Rattle.pml_lex.proofs.Steps.{fresh_from-append, same_lexeme}
use Rattle.pml_lex.proofs.Wholes.{Divides, from_whole}
use Rattle.prepare.specs.declared.context.Context.{Context}
use Rattle.prepare.specs.Roles.{role}
use Rattle.prepare.specs.Contexts.{behind, start}
use Rattle.prepare.specs.Written.{Written}
use Rattle.prepare.specs.Stretches.{broken, found_or, lexeme_at, stretch, on_lexeme, stretches_by, stretches}
use Rattle.prepare.specs.Laws.{tokens, texts}
use Rattle.prepare.proofs.Turning.{at_lexeme}

-- behind these tokens comes the end, which has no bytes
abbrev Ends : List Word → List Written → Type 0
Ends ts us = tokens us ≡ texts ts ++ [] ∷ []

at_end : (fuel : ℕ) (fresh : Bool) (p : Context) (gap : List ℕ) → Ends [] (stretches_by fuel fresh p gap [])
unfolding stretches_by
at_end zero fresh p gap = refl
at_end (suc fuel) fresh p gap = refl

pub no_lexeme : (fresh : Bool) (q : List ℕ) → IsLongest fresh [] q → ⊥
unfolding lexeme
no_lexeme fresh [] h = false≢true h.stands.is_lexeme
no_lexeme fresh (b ∷ q) h = cc (h.stands.front, take-nil {A = ℕ} (length (b ∷ q)))

-- what the scan finds is the longest lexeme
pub record Finds (fresh : Bool) (rest q : List ℕ) : Type 0 where
  pub kind : Lexeme
  pub found : lexeme_at fresh rest ≡ (length q, kind)
  pub scanned : next fresh rest ≡ Some (length q, kind)
  pub some : 0 < length q
  pub within : length q ≤ length rest
  pub front : take (length q) rest ≡ q
  pub spells : lexeme fresh q ≡ Some kind

finds_by : (fresh : Bool) (rest q : List ℕ) → IsLongest fresh rest q → (o : Found) → next fresh rest ≡ o → IsNext fresh rest o → Finds fresh rest q
unfolding lexeme_at
finds_by fresh rest q h None e n = absurd (n q h.stands)
finds_by fresh rest q h (Some x) e n =
    let same : take x.0 rest ≡ q = same_lexeme fresh rest (take x.0 rest) q n.longest h in
    let len : length q ≡ x.0 = ap length (sym same) ∙ length-take-le x.0 rest n.within in
    let pair : ℕ → ℕ × Lexeme = λ m. (m, x.1) in
    record {
      kind = x.1;
      found = ap (found_or (broken rest)) e ∙ ap pair (sym len);
      scanned = e ∙ ap (λ (m : ℕ). let o : Found = Some (pair m) in o) (sym len);
      some = subst (λ (m : ℕ). 0 < m) (sym len) n.some;
      within = subst (λ (m : ℕ). m ≤ length rest) (sym len) n.within;
      front = h.stands.front;
      spells = ap (lexeme fresh) (sym same) ∙ n.spells;
    }

pub finds : (fresh : Bool) (rest q : List ℕ) → 0 < length rest → IsLongest fresh rest q → Finds fresh rest q
finds fresh rest q some h = finds_by fresh rest q h (next fresh rest) refl (next_is fresh rest some)

-- the tokens of the rest, where the lexemes from there on are known
abbrev Follows : ℕ → List (List ℕ) → Type 0
Follows fuel ps = (fresh : Bool) (p : Context) (gap before rest : List ℕ) → length rest ≤ fuel → fresh ≡ is_fresh before → Divides before ps rest → Ends (words before ps) (stretches_by fuel fresh p gap rest)

on_kind : (fuel : ℕ) (p : Context) (gap before rest q : List ℕ) (ps : List (List ℕ)) (kind : Lexeme) → Follows fuel ps → length (drop (length q) rest) ≤ fuel → take (length q) rest ≡ q → lexeme (is_fresh before) q ≡ Some kind
    → Divides (before ++ q) ps (drop (length q) rest) → Ends (word (Some kind) q (line_behind before) ++ words (before ++ q) ps) (on_lexeme (length q) kind (is_fresh before) p gap rest (stretches_by fuel))
unfolding stretch
on_kind fuel p gap before rest q ps Skipped h short front spells divides =
    h (fresh_from (is_fresh before) (take (length q) rest)) p (gap ++ take (length q) rest) (before ++ q) (drop (length q) rest) short (ap (fresh_from (is_fresh before)) front ∙ sym (fresh_from-append true before q)) divides
on_kind fuel p gap before rest q ps (Token k) h short front spells divides =
    let stale : false ≡ is_fresh (before ++ q) = sym (token_place (is_fresh before) q k spells).1 ∙ sym (fresh_from-append true before q) in
    ap (λ (t : List ℕ). t ∷ tokens (stretches_by fuel false (behind p (role k (take (length q) rest))) [] (drop (length q) rest))) front
    ∙ ap (λ (ts : List (List ℕ)). q ∷ ts) (h false (behind p (role k (take (length q) rest))) [] (before ++ q) (drop (length q) rest) short stale divides)

follow : (fuel : ℕ) (ps : List (List ℕ)) → Follows fuel ps
follow fuel [] fresh p gap before rest short fresh_is divides = subst (λ (r : List ℕ). Ends [] (stretches_by fuel fresh p gap r)) (sym divides) (at_end fuel fresh p gap)
follow zero (q ∷ ps) fresh p gap before [] short fresh_is divides = absurd (no_lexeme (is_fresh before) q divides.0)
follow zero (q ∷ ps) fresh p gap before (b ∷ r) short fresh_is divides = absurd (omega arith)
follow (suc fuel) (q ∷ ps) fresh p gap before [] short fresh_is divides = absurd (no_lexeme (is_fresh before) q divides.0)
follow (suc fuel) (q ∷ ps) fresh p gap before (b ∷ r) short fresh_is divides =
    let rest = b ∷ r in
    let f : Finds (is_fresh before) rest q = finds (is_fresh before) rest q (omega arith) divides.0 in
    let len : length (drop (length q) rest) ≡ length rest - length q = length-drop (length q) rest in
    let some : 0 < length q = f.some in
    let step : stretches_by (suc fuel) (is_fresh before) p gap rest ≡ on_lexeme (length q) f.kind (is_fresh before) p gap rest (stretches_by fuel) = at_lexeme fuel (is_fresh before) p gap rest (length q) f.kind f.some f.within f.found in
    let here = on_kind fuel p gap before rest q ps f.kind (follow fuel ps) (omega arith) f.front f.spells divides.1 in
    ap (λ (x : Bool). tokens (stretches_by (suc fuel) x p gap rest)) fresh_is ∙ ap tokens step ∙ here
    ∙ ap (λ (o : Option Lexeme). texts (word o q (line_behind before) ++ words (before ++ q) ps) ++ [] ∷ []) (sym f.spells)

pub tokens_are : (text : List ℕ) (ts : List Word) → IsCut text ts → tokens (stretches text) ≡ texts ts ++ [] ∷ []
tokens_are text ts h =
    follow (length text) h.lexemes true start [] [] text (omega arith) refl (from_whole h.lexemes text h.divides) ∙ ap (λ (us : List Word). texts us ++ [] ∷ []) (sym h.are_words)
