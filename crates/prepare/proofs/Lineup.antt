-- The tokens of stretches on their lines, through cutting and through what becomes of them.
use Rattle.std.proofs.Common.{◌≡◌, ℕ, zero, suc, ◌-◌, ◌<◌, ◌≤◌, Bool, true, false, List, [], ◌∷◌, ◌++◌, Option, Some, length, take, drop, sym, refl, ap, ◌∙◌, subst, length-drop, arith}
use Rattle.promela_text.specs.declared.lexeme.Lexeme.{Lexeme}
use Rattle.promela_text.specs.declared.lexeme.Lexeme.TheVariants.{Skipped, Token}
use Rattle.pml_token.specs.declared.token.Kind.{Kind}
use Rattle.pml_token.specs.Word.{Word}
use Rattle.promela_text.specs.Tokens.{lexeme, IsCut, fresh_from, is_fresh, line_behind, word, words}
use Rattle.pml_lex.proofs.Places.{token_place}
use Rattle.pml_lex.proofs.Steps.{fresh_from-append}
use Rattle.pml_lex.proofs.Wholes.{Divides, from_whole}
use Rattle.prepare.specs.declared.changes.PhraseHead.{PhraseHead}
use Rattle.prepare.specs.declared.changes.PhraseHead.TheVariants.{Outside}
use Rattle.prepare.specs.declared.context.Context.{Context}
use Rattle.prepare.specs.Roles.{role}
use Rattle.prepare.specs.Contexts.{behind, start}
use Rattle.prepare.specs.Written.{Written}
use Rattle.prepare.specs.Stretches.{lexeme_at, stretch, on_lexeme, stretches_by, stretches}
use Rattle.prepare.specs.Spelling.{spelled}
use Rattle.prepare.specs.Sizes.{Declared, declared}
use Rattle.prepare.specs.Changed.{changed}
use Rattle.prepare.specs.Changes.{change_of, head_behind, exchanges_by, exchanges, shown, respelled_one}
use Rattle.prepare.specs.Laws.{Standing, source, line_from, standing, written_from, shown_from, has_tokens_alone}
use Rattle.prepare.proofs.Turning.{at_lexeme}
use Rattle.prepare.proofs.Tokens.{Finds, finds, no_lexeme}
use Rattle.prepare.proofs.Lines.{feeds-append}
use Rattle.prepare.proofs.Changing.{shown_feeds}
use Rattle.prepare.proofs.Again.{cut_again}

-- the tokens of stretches, each on its line, but for the last stretch, which has none
abbrev lined_from : ℕ → List Written → List Standing
lined_from n [] = []
lined_from n (t ∷ []) = []
lined_from n (t ∷ u ∷ us) = record { text = t.token; line = line_from n t.gap } ∷ lined_from (line_from n (source t)) (u ∷ us)

-- stretches are never none
record Some_stretches (us : List Written) : Type 0 where
  first : Written
  others : List Written
  are : us ≡ first ∷ others

some_by : (n : ℕ) (x : Lexeme) (fresh : Bool) (p : Context) (gap text : List ℕ) (fuel : ℕ) → ((f : Bool) (q : Context) (g t : List ℕ) → Some_stretches (stretches_by fuel f q g t)) → Some_stretches (on_lexeme n x fresh p gap text (stretches_by fuel))
some_by n Skipped fresh p gap text fuel h = h (fresh_from fresh (take n text)) p (gap ++ take n text) (drop n text)
some_by n (Token k) fresh p gap text fuel h = record { first = stretch p k gap (take n text); others = stretches_by fuel false (behind p (role k (take n text))) [] (drop n text); are = refl }

some_stretches : (fuel : ℕ) (fresh : Bool) (p : Context) (gap text : List ℕ) → Some_stretches (stretches_by fuel fresh p gap text)
unfolding stretches_by
some_stretches zero fresh p gap text = record { first = _; others = []; are = refl }
some_stretches (suc fuel) fresh p gap [] = record { first = _; others = []; are = refl }
some_stretches (suc fuel) fresh p gap (b ∷ q) = some_by (lexeme_at fresh (b ∷ q)).0 (lexeme_at fresh (b ∷ q)).1 fresh p gap (b ∷ q) fuel (some_stretches fuel)

lined_more : (n : ℕ) (p : Context) (k : Kind) (gap t : List ℕ) (us : List Written) → Some_stretches us → lined_from n (stretch p k gap t ∷ us) ≡ record { text = t; line = line_from n gap } ∷ lined_from (line_from n (gap ++ t)) us
unfolding stretch
lined_more n p k gap t us s =
    subst (λ (x : List Written). lined_from n (stretch p k gap t ∷ x) ≡ record { text = t; line = line_from n gap } ∷ lined_from (line_from n (gap ++ t)) x) (sym s.are) refl

line_on : (before q : List ℕ) (n : ℕ) → line_behind before ≡ n → line_behind (before ++ q) ≡ line_from n q
line_on before q n e = let a = feeds-append before q in omega arith

line_join : (n : ℕ) (gap q : List ℕ) → line_from (line_from n gap) q ≡ line_from n (gap ++ q)
line_join n gap q = let a = feeds-append gap q in omega arith

-- the tokens of the rest, where the lexemes from there on are known: `n` is the line that the gap begins on
abbrev Follows : ℕ → List (List ℕ) → Type 0
Follows fuel ps = (n : ℕ) (fresh : Bool) (p : Context) (gap before rest : List ℕ) → length rest ≤ fuel → fresh ≡ is_fresh before → line_behind before ≡ line_from n gap → Divides before ps rest
    → lined_from n (stretches_by fuel fresh p gap rest) ≡ standing (words before ps)

at_end : (n fuel : ℕ) (fresh : Bool) (p : Context) (gap : List ℕ) → lined_from n (stretches_by fuel fresh p gap []) ≡ []
unfolding stretches_by
at_end n zero fresh p gap = refl
at_end n (suc fuel) fresh p gap = refl

on_kind : (fuel n : ℕ) (p : Context) (gap before rest q : List ℕ) (ps : List (List ℕ)) (kind : Lexeme) → Follows fuel ps → length (drop (length q) rest) ≤ fuel → take (length q) rest ≡ q → lexeme (is_fresh before) q ≡ Some kind
    → line_behind before ≡ line_from n gap → Divides (before ++ q) ps (drop (length q) rest) → lined_from n (on_lexeme (length q) kind (is_fresh before) p gap rest (stretches_by fuel)) ≡ standing (word (Some kind) q (line_behind before) ++ words (before ++ q) ps)
on_kind fuel n p gap before rest q ps Skipped h short front spells line divides =
    let t = take (length q) rest in
    let on : line_behind (before ++ q) ≡ line_from n (gap ++ t) = line_on before q (line_from n gap) line ∙ line_join n gap q ∙ ap (λ (x : List ℕ). line_from n (gap ++ x)) (sym front) in
    h n (fresh_from (is_fresh before) t) p (gap ++ t) (before ++ q) (drop (length q) rest) short (ap (fresh_from (is_fresh before)) front ∙ sym (fresh_from-append true before q)) on divides
on_kind fuel n p gap before rest q ps (Token k) h short front spells line divides =
    let t = take (length q) rest in
    let back = drop (length q) rest in
    let us = stretches_by fuel false (behind p (role k t)) [] back in
    let stale : false ≡ is_fresh (before ++ q) = sym (token_place (is_fresh before) q k spells).1 ∙ sym (fresh_from-append true before q) in
    let on : line_behind (before ++ q) ≡ line_from (line_from n (gap ++ t)) [] =
    line_on before q (line_from n gap) line ∙ line_join n gap q ∙ ap (λ (x : List ℕ). line_from n (gap ++ x)) (sym front) ∙ sym (line_none (line_from n (gap ++ t))) in
    lined_more n p k gap t us (some_stretches fuel false (behind p (role k t)) [] back)
    ∙ ap (λ (x : List ℕ). record { text = x; line = line_from n gap } ∷ lined_from (line_from n (gap ++ t)) us) front
    ∙ ap (λ (m : ℕ). record { text = q; line = m } ∷ lined_from (line_from n (gap ++ t)) us) (sym line)
    ∙ ap (λ (ts : List Standing). record { text = q; line = line_behind before } ∷ ts) (h (line_from n (gap ++ t)) false (behind p (role k t)) [] (before ++ q) back short stale on divides)
  where
    line_none : (m : ℕ) → line_from m [] ≡ m
    line_none m = omega arith

follow : (fuel : ℕ) (ps : List (List ℕ)) → Follows fuel ps
follow fuel [] n fresh p gap before rest short fresh_is line divides = subst (λ (r : List ℕ). lined_from n (stretches_by fuel fresh p gap r) ≡ []) (sym divides) (at_end n fuel fresh p gap)
follow zero (q ∷ ps) n fresh p gap before [] short fresh_is line divides = absurd (no_lexeme (is_fresh before) q divides.0)
follow zero (q ∷ ps) n fresh p gap before (b ∷ r) short fresh_is line divides = absurd (omega arith)
follow (suc fuel) (q ∷ ps) n fresh p gap before [] short fresh_is line divides = absurd (no_lexeme (is_fresh before) q divides.0)
follow (suc fuel) (q ∷ ps) n fresh p gap before (b ∷ r) short fresh_is line divides =
    let rest = b ∷ r in
    let f : Finds (is_fresh before) rest q = finds (is_fresh before) rest q (omega arith) divides.0 in
    let len : length (drop (length q) rest) ≡ length rest - length q = length-drop (length q) rest in
    let some : 0 < length q = f.some in
    let step : stretches_by (suc fuel) (is_fresh before) p gap rest ≡ on_lexeme (length q) f.kind (is_fresh before) p gap rest (stretches_by fuel) = at_lexeme fuel (is_fresh before) p gap rest (length q) f.kind f.some f.within f.found in
    ap (lined_from n) (ap (λ (x : Bool). stretches_by (suc fuel) x p gap rest) fresh_is ∙ step)
    ∙ on_kind fuel n p gap before rest q ps f.kind (follow fuel ps) (omega arith) f.front f.spells line divides.1
    ∙ ap (λ (o : Option Lexeme). standing (word o q (line_behind before) ++ words (before ++ q) ps)) (sym f.spells)

-- the tokens of a text's stretches are those that it is cut into, on their lines
lined_is : (text : List ℕ) (ts : List Word) → IsCut text ts → lined_from 1 (stretches text) ≡ standing ts
lined_is text ts h = follow (length text) h.lexemes 1 true start [] [] text (omega arith) refl refl (from_whole h.lexemes text h.divides) ∙ ap standing (sym h.are_words)

one_line : (ds : List Declared) (h : PhraseHead) (t : Written) (ts : List Written) (n : ℕ) → line_from n (respelled_one (changed t (change_of ds h t ts))) ≡ line_from n (source t)
one_line ds h t ts n =
    let c = change_of ds h t ts in
    let a = feeds-append t.gap (shown c t.token) in
    let b = feeds-append t.gap t.token in
    let d = shown_feeds c t.token in
    omega arith

-- what becomes of stretches stands on their lines
shown_is : (ds : List Declared) (h : PhraseHead) (ts : List Written) (n : ℕ) → shown_from n (exchanges_by ds h ts) ≡ lined_from n ts
shown_is ds h [] n = refl
shown_is ds h (t ∷ []) n = refl
shown_is ds h (t ∷ u ∷ us) n =
    ap (λ (m : ℕ). record { text = t.token; line = line_from n t.gap } ∷ shown_from m (exchanges_by ds (head_behind h t.kind t.token) (u ∷ us))) (one_line ds h t (u ∷ us) n)
    ∙ ap (λ (x : List Standing). record { text = t.token; line = line_from n t.gap } ∷ x) (shown_is ds (head_behind h t.kind t.token) (u ∷ us) (line_from n (source t)))

pub tokens_stand : (lines : List ℕ) → has_tokens_alone lines ≡ true → shown_from 1 (exchanges (stretches (spelled (stretches lines)))) ≡ written_from 1 (stretches lines)
tokens_stand lines h =
    let text = spelled (stretches lines) in
    let again = cut_again lines h in
    shown_is (declared (stretches text)) Outside (stretches text) 1 ∙ lined_is text again.0 again.1.0 ∙ again.1.1
