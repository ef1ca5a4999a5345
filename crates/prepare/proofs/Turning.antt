-- The loop that divides a text into stretches: what holds at each of its stretches, and what one lexeme does to it.
use Rattle.std.proofs.Common.{◌≡◌, ℕ, zero, suc, ◌+◌, ◌-◌, ◌<◌, ◌≤◌, Bool, true, false, List, [], ◌∷◌, ◌++◌, length, take, drop, sym, refl, ap, ◌∙◌, subst, append_assoc, append-nil, take-append-drop, length-take-le, length-drop, arith}
use Rattle.std.proofs.Math.Seq.{take-append-add, drop-append-add}
use Rattle.std.proofs.lemmas.List.{drop_all}
use Rattle.promela_text.specs.declared.lexeme.Lexeme.{Lexeme}
use Rattle.promela_text.specs.declared.lexeme.Lexeme.TheVariants.{Skipped, Token}
use Rattle.pml_token.specs.declared.token.Kind.{Kind}
use Rattle.promela_text.specs.Tokens.{fresh_from}
use Rattle.prepare.specs.declared.context.Context.{Context}
use Rattle.prepare.specs.Written.{Written}
use Rattle.prepare.specs.Roles.{role}
use Rattle.prepare.specs.Contexts.{start, behind}
use Rattle.prepare.specs.Stretches.{lexeme_at, stretch, last_stretch, on_lexeme, stretches_by, stretches}

-- found: the stretches of what is before the gap, which is the front of `from`
pub record Reached (text : List ℕ) (found : List Written) (fresh : Bool) (p : Context) (gap : ℕ) (from : List ℕ) : Type 0 where
  pub left : ℕ
  pub enough : length from ≤ gap + left
  pub within : gap ≤ length from
  pub so_far : found ++ stretches_by left fresh p (take gap from) (drop gap from) ≡ stretches text

pub reached_start : (text : List ℕ) → Reached text [] true start 0 text
reached_start text = record { left = length text; enough = omega arith; within = omega arith; so_far = refl }

longer_gap : (from : List ℕ) (gap n : ℕ) → gap ≤ length from → take (gap + n) from ≡ take gap from ++ take n (drop gap from)
longer_gap from gap n h =
    ap (take (gap + n)) (sym (take-append-drop gap from))
    ∙ subst (λ (g : ℕ). take (g + n) (take gap from ++ drop gap from) ≡ take gap from ++ take n (drop gap from)) (length-take-le gap from h) (take-append-add (take gap from) (drop gap from) n)

further : (from : List ℕ) (gap n : ℕ) → gap ≤ length from → drop (gap + n) from ≡ drop n (drop gap from)
further from gap n h =
    ap (drop (gap + n)) (sym (take-append-drop gap from))
    ∙ subst (λ (g : ℕ). drop (g + n) (take gap from ++ drop gap from) ≡ drop n (drop gap from)) (length-take-le gap from h) (drop-append-add (take gap from) (drop gap from) n)

one_lexeme : (fuel : ℕ) (fresh : Bool) (p : Context) (gap rest : List ℕ) → 0 < length rest → stretches_by (suc fuel) fresh p gap rest ≡ on_lexeme (lexeme_at fresh rest).0 (lexeme_at fresh rest).1 fresh p gap rest (stretches_by fuel)
unfolding stretches_by
one_lexeme fuel fresh p gap [] h = absurd (omega arith)
one_lexeme fuel fresh p gap (b ∷ q) h = refl

pub at_lexeme : (fuel : ℕ) (fresh : Bool) (p : Context) (gap rest : List ℕ) (n : ℕ) (x : Lexeme) → 0 < n → n ≤ length rest → lexeme_at fresh rest ≡ (n, x) → stretches_by (suc fuel) fresh p gap rest ≡ on_lexeme n x fresh p gap rest (stretches_by fuel)
at_lexeme fuel fresh p gap rest n x some within is = one_lexeme fuel fresh p gap rest (omega arith) ∙ ap (λ (y : ℕ × Lexeme). on_lexeme y.0 y.1 fresh p gap rest (stretches_by fuel)) is

skipped_by : (left : ℕ) (text : List ℕ) (found : List Written) (fresh : Bool) (p : Context) (gap : ℕ) (from : List ℕ) (n : ℕ) → length from ≤ gap + left → gap ≤ length from
    → found ++ stretches_by left fresh p (take gap from) (drop gap from) ≡ stretches text → lexeme_at fresh (drop gap from) ≡ (n, Skipped) → 0 < n → n ≤ length from - gap
    → Reached text found (fresh_from fresh (take n (drop gap from))) p (gap + n) from
skipped_by zero text found fresh p gap from n enough within so_far is some fits = absurd (omega arith)
skipped_by (suc left) text found fresh p gap from n enough within so_far is some fits =
    let len : length (drop gap from) ≡ length from - gap = length-drop gap from in
    let step = at_lexeme left fresh p (take gap from) (drop gap from) n Skipped some (omega arith) is in
    record {
      left = left;
      enough = omega arith;
      within = omega arith;
      so_far = ap (λ (xs : List ℕ). found ++ stretches_by left (fresh_from fresh (take n (drop gap from))) p xs (drop (gap + n) from)) (longer_gap from gap n within)
          ∙ ap (λ (xs : List ℕ). found ++ stretches_by left (fresh_from fresh (take n (drop gap from))) p (take gap from ++ take n (drop gap from)) xs) (further from gap n within)
          ∙ ap (λ (ts : List Written). found ++ ts) (sym step) ∙ so_far;
    }

pub reached_skipped : {text : List ℕ} {found : List Written} {fresh : Bool} {p : Context} {gap : ℕ} {from : List ℕ} (n : ℕ) → Reached text found fresh p gap from → lexeme_at fresh (drop gap from) ≡ (n, Skipped) → 0 < n → n ≤ length from - gap
    → Reached text found (fresh_from fresh (take n (drop gap from))) p (gap + n) from
reached_skipped {text} {found} {fresh} {p} {gap} {from} n r is some fits = skipped_by r.left text found fresh p gap from n r.enough r.within r.so_far is some fits

token_by : (left : ℕ) (text : List ℕ) (found : List Written) (fresh : Bool) (p : Context) (gap : ℕ) (from : List ℕ) (n : ℕ) (k : Kind) → length from ≤ gap + left → gap ≤ length from
    → found ++ stretches_by left fresh p (take gap from) (drop gap from) ≡ stretches text → lexeme_at fresh (drop gap from) ≡ (n, Token k) → 0 < n → n ≤ length from - gap
    → Reached text (found ++ stretch p k (take gap from) (take n (drop gap from)) ∷ []) false (behind p (role k (take n (drop gap from)))) 0 (drop n (drop gap from))
token_by zero text found fresh p gap from n k enough within so_far is some fits = absurd (omega arith)
token_by (suc left) text found fresh p gap from n k enough within so_far is some fits =
    let rest = drop gap from in
    let len : length rest ≡ length from - gap = length-drop gap from in
    let len' : length (drop n rest) ≡ length rest - n = length-drop n rest in
    let step = at_lexeme left fresh p (take gap from) rest n (Token k) some (omega arith) is in
    record {
      left = left;
      enough = omega arith;
      within = omega arith;
      so_far = append_assoc found (stretch p k (take gap from) (take n rest) ∷ []) (stretches_by left false (behind p (role k (take n rest))) [] (drop n rest))
          ∙ ap (λ (ts : List Written). found ++ ts) (sym step) ∙ so_far;
    }

pub reached_token : {text : List ℕ} {found : List Written} {fresh : Bool} {p : Context} {gap : ℕ} {from : List ℕ} (n : ℕ) (k : Kind) → Reached text found fresh p gap from → lexeme_at fresh (drop gap from) ≡ (n, Token k) → 0 < n → n ≤ length from - gap
    → Reached text (found ++ stretch p k (take gap from) (take n (drop gap from)) ∷ []) false (behind p (role k (take n (drop gap from)))) 0 (drop n (drop gap from))
reached_token {text} {found} {fresh} {p} {gap} {from} n k r is some fits = token_by r.left text found fresh p gap from n k r.enough r.within r.so_far is some fits

nothing_left : (left : ℕ) (fresh : Bool) (p : Context) (gap : List ℕ) → stretches_by left fresh p gap [] ≡ last_stretch gap ∷ []
unfolding stretches_by
nothing_left zero fresh p gap = ap (λ (g : List ℕ). last_stretch g ∷ []) (append-nil gap)
nothing_left (suc left) fresh p gap = refl

whole_gap : (from : List ℕ) (gap : ℕ) → length from ≤ gap → gap ≤ length from → take gap from ≡ from
whole_gap from gap h g = sym (append-nil (take gap from)) ∙ ap (λ (xs : List ℕ). take gap from ++ xs) (sym (drop_all gap from h)) ∙ take-append-drop gap from

pub reached_end : {text : List ℕ} {found : List Written} {fresh : Bool} {p : Context} {gap : ℕ} {from : List ℕ} → Reached text found fresh p gap from → length from ≤ gap → found ++ last_stretch from ∷ [] ≡ stretches text
reached_end {text} {found} {fresh} {p} {gap} {from} r h =
    ap (λ (g : List ℕ). found ++ last_stretch g ∷ []) (sym (whole_gap from gap h r.within)) ∙ ap (λ (ts : List Written). found ++ ts) (sym (nothing_left r.left fresh p (take gap from)))
    ∙ ap (λ (xs : List ℕ). found ++ stretches_by r.left fresh p (take gap from) xs) (sym (drop_all gap from h)) ∙ r.so_far
