-- A text that is cut into tokens of which none is left out has such tokens alone.
use Rattle.std.proofs.Common.{◌≡◌, ℕ, zero, suc, ◌-◌, ◌<◌, ◌≤◌, Bool, true, false, not, ◌&&◌, ◌||◌, List, [], ◌∷◌, ◌++◌, Option, Some, length, take, drop, sym, refl, ap, ◌∙◌, subst, length-drop, arith}
use Rattle.std.specs.List.{list_all}
use Rattle.std.proofs.lemmas.Bool.{false≢true}
use Rattle.promela_text.specs.declared.lexeme.Lexeme.{Lexeme}
use Rattle.promela_text.specs.declared.lexeme.Lexeme.TheVariants.{Skipped, Token}
use Rattle.pml_token.specs.declared.token.Kind.{Kind}
use Rattle.pml_token.specs.declared.token.Kind.TheVariants.{LeftOut}
use Rattle.pml_token.specs.Word.{same_kind, Word}
use Rattle.promela_text.specs.Tokens.{lexeme, has_left_out, IsCut, fresh_from, is_fresh, line_behind, word, words}
use Rattle.pml_lex.proofs.Places.{token_place}
use Rattle.pml_lex.proofs.Steps.{fresh_from-append}
use Rattle.pml_lex.proofs.Wholes.{Divides, from_whole}
use Rattle.prepare.specs.declared.context.Context.{Context}
use Rattle.prepare.specs.Roles.{role}
use Rattle.prepare.specs.Contexts.{behind, start}
use Rattle.prepare.specs.Written.{Written}
use Rattle.prepare.specs.Stretches.{stretch, on_lexeme, stretches_by}
use Rattle.prepare.specs.Blocks.{is_blank_form}
use Rattle.prepare.specs.Laws.{is_token, has_tokens_alone}
use Rattle.prepare.proofs.Turning.{at_lexeme}
use Rattle.prepare.proofs.Tokens.{Finds, finds, no_lexeme}

or_left : (a b : Bool) → (a || b) ≡ false → a ≡ false
or_left true b h = h
or_left false b h = refl

or_right : (a b : Bool) → (a || b) ≡ false → b ≡ false
or_right true b h = absurd (false≢true (sym h))
or_right false b h = h

or_true : (a : Bool) → (a || true) ≡ true
or_true true = refl
or_true false = refl

stretch_token : (p : Context) (k : Kind) (gap t : List ℕ) → same_kind k LeftOut ≡ false → is_token (stretch p k gap t) ≡ true
unfolding stretch
stretch_token p k gap t h = ap (λ (x : Bool). is_blank_form (stretch p k gap t).form || not x) h ∙ or_true (is_blank_form (stretch p k gap t).form)

abbrev AllTokens : List Written → Type 0
AllTokens ts = list_all is_token ts ≡ true

abbrev Follows : ℕ → List (List ℕ) → Type 0
Follows fuel ps = (fresh : Bool) (p : Context) (gap before rest : List ℕ) → length rest ≤ fuel → fresh ≡ is_fresh before → Divides before ps rest → has_left_out (words before ps) ≡ false → AllTokens (stretches_by fuel fresh p gap rest)

at_end : (fuel : ℕ) (fresh : Bool) (p : Context) (gap : List ℕ) → AllTokens (stretches_by fuel fresh p gap [])
unfolding stretches_by
at_end zero fresh p gap = refl
at_end (suc fuel) fresh p gap = refl

on_kind : (fuel : ℕ) (p : Context) (gap before rest q : List ℕ) (ps : List (List ℕ)) (kind : Lexeme) → Follows fuel ps → length (drop (length q) rest) ≤ fuel → take (length q) rest ≡ q → lexeme (is_fresh before) q ≡ Some kind
    → Divides (before ++ q) ps (drop (length q) rest) → has_left_out (word (Some kind) q (line_behind before) ++ words (before ++ q) ps) ≡ false → AllTokens (on_lexeme (length q) kind (is_fresh before) p gap rest (stretches_by fuel))
on_kind fuel p gap before rest q ps Skipped h short front spells divides kept =
    h (fresh_from (is_fresh before) (take (length q) rest)) p (gap ++ take (length q) rest) (before ++ q) (drop (length q) rest) short (ap (fresh_from (is_fresh before)) front ∙ sym (fresh_from-append true before q)) divides kept
on_kind fuel p gap before rest q ps (Token k) h short front spells divides kept =
    let t = take (length q) rest in
    let stale : false ≡ is_fresh (before ++ q) = sym (token_place (is_fresh before) q k spells).1 ∙ sym (fresh_from-append true before q) in
    let more = stretches_by fuel false (behind p (role k t)) [] (drop (length q) rest) in
    ap (λ (x : Bool). x && list_all is_token more) (stretch_token p k gap t (or_left (same_kind k LeftOut) (has_left_out (words (before ++ q) ps)) kept))
    ∙ h false (behind p (role k t)) [] (before ++ q) (drop (length q) rest) short stale divides (or_right (same_kind k LeftOut) (has_left_out (words (before ++ q) ps)) kept)

follow : (fuel : ℕ) (ps : List (List ℕ)) → Follows fuel ps
follow fuel [] fresh p gap before rest short fresh_is divides kept = subst (λ (r : List ℕ). AllTokens (stretches_by fuel fresh p gap r)) (sym divides) (at_end fuel fresh p gap)
follow zero (q ∷ ps) fresh p gap before [] short fresh_is divides kept = absurd (no_lexeme (is_fresh before) q divides.0)
follow zero (q ∷ ps) fresh p gap before (b ∷ r) short fresh_is divides kept = absurd (omega arith)
follow (suc fuel) (q ∷ ps) fresh p gap before [] short fresh_is divides kept = absurd (no_lexeme (is_fresh before) q divides.0)
follow (suc fuel) (q ∷ ps) fresh p gap before (b ∷ r) short fresh_is divides kept =
    let rest = b ∷ r in
    let f : Finds (is_fresh before) rest q = finds (is_fresh before) rest q (omega arith) divides.0 in
    let len : length (drop (length q) rest) ≡ length rest - length q = length-drop (length q) rest in
    let some : 0 < length q = f.some in
    let step : stretches_by (suc fuel) (is_fresh before) p gap rest ≡ on_lexeme (length q) f.kind (is_fresh before) p gap rest (stretches_by fuel) = at_lexeme fuel (is_fresh before) p gap rest (length q) f.kind f.some f.within f.found in
    ap (list_all is_token) (ap (λ (x : Bool). stretches_by (suc fuel) x p gap rest) fresh_is ∙ step)
    ∙ on_kind fuel p gap before rest q ps f.kind (follow fuel ps) (omega arith) f.front f.spells divides.1
    (ap (λ (o : Option Lexeme). has_left_out (word o q (line_behind before) ++ words (before ++ q) ps)) (sym f.spells) ∙ kept)

pub tokens_alone : (text : List ℕ) (ts : List Word) → IsCut text ts → has_left_out ts ≡ false → has_tokens_alone text ≡ true
tokens_alone text ts h kept = follow (length text) h.lexemes true start [] [] text (omega arith) refl (from_whole h.lexemes text h.divides) (ap has_left_out (sym h.are_words) ∙ kept)
