-- A text that is cut into tokens of which none is left out has no block and no string over several lines.
use Rattle.std.proofs.Common.{◌≡◌, ℕ, zero, suc, ◌+◌, ◌-◌, ◌<◌, ◌≤◌, Bool, true, false, not, cond, ◌&&◌, ◌||◌, List, [], ◌∷◌, ◌++◌, Option, Some, length, take, drop, sym, refl, ap, ◌∙◌, subst, inl, inr, ⊎_elim, length-drop, arith}
use Rattle.std.specs.Prelude.{count_by, ◌⊎◌}
use Rattle.std.specs.List.{list_all, list_any}
use Rattle.std.specs.Str.{bytes_eq}
use lib.Chars.{codes}
use Rattle.std.proofs.lemmas.Bool.{false≢true}
use Rattle.std.proofs.lemmas.Slice.Eq.{bytes_eq-Decides}
use Rattle.std.proofs.lemmas.List.Sums.{sum_by-append}
use Rattle.promela_text.specs.declared.lexeme.Lexeme.{Lexeme}
use Rattle.promela_text.specs.declared.lexeme.Lexeme.TheVariants.{Skipped, Token}
use Rattle.pml_token.specs.declared.token.Kind.{Kind}
use Rattle.pml_token.specs.declared.token.Kind.TheVariants.{LeftOut}
use Rattle.pml_token.specs.Word.{same_kind, Word}
use Rattle.promela_text.specs.Tables.{reserved, word_kind}
use Rattle.promela_text.specs.Tokens.{lexeme, has_left_out, IsCut, is_line_feed, fresh_from, is_fresh, line_behind, word, words}
use Rattle.pml_lex.proofs.Places.{token_place}
use Rattle.pml_lex.proofs.Steps.{fresh_from-append}
use Rattle.pml_lex.proofs.Wholes.{Divides, from_whole}
use Rattle.prepare.specs.declared.roles.TokenRole.{TokenRole}
use Rattle.prepare.specs.declared.roles.TokenRole.TheVariants as as_role
use Rattle.prepare.specs.declared.context.BlankedBlock.{BlankedBlock}
use Rattle.prepare.specs.declared.context.BlankedBlock.TheVariants.{Outside}
use Rattle.prepare.specs.declared.context.Context.{Context}
use Rattle.prepare.specs.declared.stretch.StretchForm.TheVariants as form
use Rattle.prepare.specs.Roles.{is_block_word, role}
use Rattle.prepare.specs.Contexts.{is_head_word, is_blanked, behind_outside, block_behind, behind, start}
use Rattle.prepare.specs.Stretches.{form_outside, stretch, on_lexeme, stretches_by, stretches}
use Rattle.prepare.specs.Laws.{is_nothing, stays, is_plain, is_unsupplied, is_mended}
use Rattle.prepare.proofs.Turning.{at_lexeme}
use Rattle.prepare.proofs.Blocks.{head_is_word}
use Rattle.prepare.proofs.Tokens.{Finds, finds, no_lexeme}

word_by : (f : Bool) (w t : List ℕ) (k : Kind) → bytes_eq t w ≡ true → lexeme f w ≡ Some (Token LeftOut) → lexeme f t ≡ Some (Token k) → same_kind k LeftOut ≡ false → ⊥
word_by f w t k h left is kept =
    let same : t ≡ w = (bytes_eq-Decides t w).0 h in
    let both : Some (Token k) ≡ Some (Token LeftOut) = sym is ∙ ap (lexeme f) same ∙ left in
    let kind : k ≡ LeftOut = cc in
    false≢true (sym kept ∙ ap (λ (x : Kind). same_kind x LeftOut) kind)

or_cases : (a b : Bool) → (a || b) ≡ true → (a ≡ true) ⊎ (b ≡ true)
or_cases true b h = inl refl
or_cases false b h = inr h

-- the words of blocks are left out
pub no_word : (f : Bool) (t : List ℕ) (k : Kind) → lexeme f t ≡ Some (Token k) → same_kind k LeftOut ≡ false → is_block_word t ≡ true → ⊥
unfolding lexeme word_kind reserved
no_word f t k is kept h =
    ⊎_elim (λ (e : bytes_eq t (codes "never") ≡ true). word_by f (codes "never") t k e refl is kept)
    (λ (h1 : (bytes_eq t (codes "ltl") || (bytes_eq t (codes "trace") || bytes_eq t (codes "notrace"))) ≡ true).
    ⊎_elim (λ (e : bytes_eq t (codes "ltl") ≡ true). word_by f (codes "ltl") t k e refl is kept)
    (λ (h2 : (bytes_eq t (codes "trace") || bytes_eq t (codes "notrace")) ≡ true).
    ⊎_elim (λ (e : bytes_eq t (codes "trace") ≡ true). word_by f (codes "trace") t k e refl is kept)
    (λ (e : bytes_eq t (codes "notrace") ≡ true). word_by f (codes "notrace") t k e refl is kept)
    (or_cases (bytes_eq t (codes "trace")) (bytes_eq t (codes "notrace")) h2))
    (or_cases (bytes_eq t (codes "ltl")) (bytes_eq t (codes "trace") || bytes_eq t (codes "notrace")) h1))
    (or_cases (bytes_eq t (codes "never")) (bytes_eq t (codes "ltl") || (bytes_eq t (codes "trace") || bytes_eq t (codes "notrace"))) h)

not_true : (b : Bool) → (b ≡ true → ⊥) → b ≡ false
not_true true h = absurd (h refl)
not_true false h = refl

pub heads_none : (f : Bool) (t : List ℕ) (k : Kind) → lexeme f t ≡ Some (Token k) → same_kind k LeftOut ≡ false → is_head_word (role k t) ≡ false
heads_none f t k is kept = not_true (is_head_word (role k t)) (λ h. no_word f t k is kept (head_is_word k t h))

pub stays_outside_by : (r : TokenRole) → is_head_word r ≡ false → behind_outside r ≡ Outside
stays_outside_by as_role.Heads h = absurd (false≢true (sym h))
stays_outside_by _ h = refl

no_feed_by : (a : Bool) (n : ℕ) (rest : Bool) → cond a 1 0 + n ≡ 0 → (n ≡ 0 → rest ≡ false) → (a || rest) ≡ false
no_feed_by true n rest h g = absurd (omega arith)
no_feed_by false n rest h g = g (omega arith)

pub no_feed : (t : List ℕ) → count_by is_line_feed t ≡ 0 → list_any is_line_feed t ≡ false
no_feed [] h = refl
no_feed (b ∷ q) h = no_feed_by (is_line_feed b) (count_by is_line_feed q) (list_any is_line_feed q) (omega arith ∙ sym (sum_by-append (λ x. cond (is_line_feed x) 1 0) (b ∷ []) q) ∙ h) (no_feed q)

pub form_stays : (r : TokenRole) (t : List ℕ) → list_any is_line_feed t ≡ false → stays (form_outside r) t ≡ true
form_stays as_role.Quotes t h = ap not h
form_stays _ t h = refl

both : (a b : Bool) → a ≡ true → b ≡ true → (a && b) ≡ true
both true b h g = g
both false b h g = h

stretch_plain : (p : Context) (k : Kind) (gap t : List ℕ) (f : Bool) → p.block ≡ Outside → lexeme f t ≡ Some (Token k) → same_kind k LeftOut ≡ false → is_nothing (stretch p k gap t).supply ≡ true → is_plain (stretch p k gap t) ≡ true
unfolding stretch
stretch_plain p k gap t f outside is kept nothing =
    let blanked : is_blanked p.block (role k t) ≡ false = ap (λ (b : BlankedBlock). is_blanked b (role k t)) outside ∙ heads_none f t k is kept in
    both (is_nothing (stretch p k gap t).supply) _ nothing
    (ap (λ (b : Bool). stays (cond b form.Blanked (form_outside (role k t))) t) blanked ∙ form_stays (role k t) t (no_feed t (token_place f t k is).0))

and_left : (a b : Bool) → (a && b) ≡ true → a ≡ true
and_left true b h = refl
and_left false b h = h

and_right : (a b : Bool) → (a && b) ≡ true → b ≡ true
and_right true b h = h
and_right false b h = absurd (false≢true h)

or_left : (a b : Bool) → (a || b) ≡ false → a ≡ false
or_left true b h = h
or_left false b h = refl

or_right : (a b : Bool) → (a || b) ≡ false → b ≡ false
or_right true b h = absurd (false≢true (sym h))
or_right false b h = h

abbrev Follows : ℕ → List (List ℕ) → Type 0
Follows fuel ps = (fresh : Bool) (p : Context) (gap before rest : List ℕ) → length rest ≤ fuel → fresh ≡ is_fresh before → p.block ≡ Outside → Divides before ps rest → has_left_out (words before ps) ≡ false
    → is_unsupplied (stretches_by fuel fresh p gap rest) ≡ true → list_all is_plain (stretches_by fuel fresh p gap rest) ≡ true

at_end : (fuel : ℕ) (fresh : Bool) (p : Context) (gap : List ℕ) → list_all is_plain (stretches_by fuel fresh p gap []) ≡ true
unfolding stretches_by
at_end zero fresh p gap = refl
at_end (suc fuel) fresh p gap = refl

on_kind : (fuel : ℕ) (p : Context) (gap before rest q : List ℕ) (ps : List (List ℕ)) (kind : Lexeme) → Follows fuel ps → length (drop (length q) rest) ≤ fuel → take (length q) rest ≡ q → lexeme (is_fresh before) q ≡ Some kind → p.block ≡ Outside
    → Divides (before ++ q) ps (drop (length q) rest) → has_left_out (word (Some kind) q (line_behind before) ++ words (before ++ q) ps) ≡ false
    → is_unsupplied (on_lexeme (length q) kind (is_fresh before) p gap rest (stretches_by fuel)) ≡ true → list_all is_plain (on_lexeme (length q) kind (is_fresh before) p gap rest (stretches_by fuel)) ≡ true
on_kind fuel p gap before rest q ps Skipped h short front spells outside divides kept nothing =
    h (fresh_from (is_fresh before) (take (length q) rest)) p (gap ++ take (length q) rest) (before ++ q) (drop (length q) rest) short (ap (fresh_from (is_fresh before)) front ∙ sym (fresh_from-append true before q)) outside divides kept nothing
on_kind fuel p gap before rest q ps (Token k) h short front spells outside divides kept nothing =
    let t = take (length q) rest in
    let here : same_kind k LeftOut ≡ false = or_left (same_kind k LeftOut) (has_left_out (words (before ++ q) ps)) kept in
    let is : lexeme (is_fresh before) t ≡ Some (Token k) = ap (lexeme (is_fresh before)) front ∙ spells in
    let stale : false ≡ is_fresh (before ++ q) = sym (token_place (is_fresh before) q k spells).1 ∙ sym (fresh_from-append true before q) in
    let more = stretches_by fuel false (behind p (role k t)) [] (drop (length q) rest) in
    let out : (behind p (role k t)).block ≡ Outside = ap (λ (b : BlankedBlock). block_behind b (role k t)) outside ∙ stays_outside_by (role k t) (heads_none (is_fresh before) t k is here) in
    both (is_plain (stretch p k gap t)) (list_all is_plain more)
    (stretch_plain p k gap t (is_fresh before) outside is here (and_left (is_nothing (stretch p k gap t).supply) (is_unsupplied more) nothing))
    (h false (behind p (role k t)) [] (before ++ q) (drop (length q) rest) short stale out divides (or_right (same_kind k LeftOut) (has_left_out (words (before ++ q) ps)) kept) (and_right (is_nothing (stretch p k gap t).supply) (is_unsupplied more) nothing))

follow : (fuel : ℕ) (ps : List (List ℕ)) → Follows fuel ps
follow fuel [] fresh p gap before rest short fresh_is outside divides kept nothing = subst (λ (r : List ℕ). list_all is_plain (stretches_by fuel fresh p gap r) ≡ true) (sym divides) (at_end fuel fresh p gap)
follow zero (q ∷ ps) fresh p gap before [] short fresh_is outside divides kept nothing = absurd (no_lexeme (is_fresh before) q divides.0)
follow zero (q ∷ ps) fresh p gap before (b ∷ r) short fresh_is outside divides kept nothing = absurd (omega arith)
follow (suc fuel) (q ∷ ps) fresh p gap before [] short fresh_is outside divides kept nothing = absurd (no_lexeme (is_fresh before) q divides.0)
follow (suc fuel) (q ∷ ps) fresh p gap before (b ∷ r) short fresh_is outside divides kept nothing =
    let rest = b ∷ r in
    let f : Finds (is_fresh before) rest q = finds (is_fresh before) rest q (omega arith) divides.0 in
    let len : length (drop (length q) rest) ≡ length rest - length q = length-drop (length q) rest in
    let some : 0 < length q = f.some in
    let step : stretches_by (suc fuel) (is_fresh before) p gap rest ≡ on_lexeme (length q) f.kind (is_fresh before) p gap rest (stretches_by fuel) = at_lexeme fuel (is_fresh before) p gap rest (length q) f.kind f.some f.within f.found in
    let same : stretches_by (suc fuel) fresh p gap rest ≡ on_lexeme (length q) f.kind (is_fresh before) p gap rest (stretches_by fuel) = ap (λ (x : Bool). stretches_by (suc fuel) x p gap rest) fresh_is ∙ step in
    ap (list_all is_plain) same
    ∙ on_kind fuel p gap before rest q ps f.kind (follow fuel ps) (omega arith) f.front f.spells outside divides.1
    (ap (λ (o : Option Lexeme). has_left_out (word o q (line_behind before) ++ words (before ++ q) ps)) (sym f.spells) ∙ kept)
    (ap is_unsupplied (sym same) ∙ nothing)

pub separators_alone : (text : List ℕ) (ts : List Word) → IsCut text ts → has_left_out ts ≡ false → is_unsupplied (stretches text) ≡ true → is_mended text ≡ true
separators_alone text ts h kept nothing =
    follow (length text) h.lexemes true start [] [] text (omega arith) refl refl (from_whole h.lexemes text h.divides) (ap has_left_out (sym h.are_words) ∙ kept) nothing
