-- The loop over the lexemes of a text, whose character constants become numbers.
use Rattle.std.proofs.Common.{◌≡◌, ℕ, zero, suc, ◌-◌, ◌<◌, ◌≤◌, Bool, true, false, ◌||◌, List, [], ◌∷◌, ◌++◌, length, take, drop, sym, refl, ap, ◌∙◌, append_assoc, append-nil, take-append-drop, length-drop, arith}
use Rattle.std.proofs.lemmas.Bool.{false≢true}
use Rattle.promela_text.specs.Tokens.{fresh_from}
use Rattle.prepare.specs.Coding.{is_coded, front_length, written, coded_by, coded, has_character_by}

-- out: what the lexemes before `rest` gave
pub record Reached (text out : List ℕ) (fresh : Bool) (rest : List ℕ) : Type 0 where
  pub left : ℕ
  pub enough : length rest ≤ left
  pub so_far : out ++ coded_by left fresh rest ≡ coded text

one_front : (fuel : ℕ) (fresh : Bool) (rest : List ℕ) → 0 < length rest
    → coded_by (suc fuel) fresh rest ≡ written (is_coded rest) (take (front_length fresh rest) rest) ++ coded_by fuel (fresh_from fresh (take (front_length fresh rest) rest)) (drop (front_length fresh rest) rest)
unfolding coded_by
one_front fuel fresh [] h = absurd (omega arith)
one_front fuel fresh (b ∷ q) h = refl

step_by : (left : ℕ) (text out : List ℕ) (fresh : Bool) (rest : List ℕ) → length rest ≤ left → out ++ coded_by left fresh rest ≡ coded text → 0 < length rest → 0 < front_length fresh rest
    → Reached text (out ++ written (is_coded rest) (take (front_length fresh rest) rest)) (fresh_from fresh (take (front_length fresh rest) rest)) (drop (front_length fresh rest) rest)
step_by zero text out fresh rest enough so_far some more = absurd (omega arith)
step_by (suc left) text out fresh rest enough so_far some more =
    let n = front_length fresh rest in
    let front = take n rest in
    let len : length (drop n rest) ≡ length rest - n = length-drop n rest in
    record {
      left = left;
      enough = omega arith;
      so_far = append_assoc out (written (is_coded rest) front) (coded_by left (fresh_from fresh front) (drop n rest)) ∙ ap (λ (xs : List ℕ). out ++ xs) (sym (one_front left fresh rest some)) ∙ so_far;
    }

-- one more lexeme
pub reached_front : {text out : List ℕ} {fresh : Bool} {rest : List ℕ} → Reached text out fresh rest → 0 < length rest → 0 < front_length fresh rest
    → Reached text (out ++ written (is_coded rest) (take (front_length fresh rest) rest)) (fresh_from fresh (take (front_length fresh rest) rest)) (drop (front_length fresh rest) rest)
reached_front {text} {out} {fresh} {rest} r some more = step_by r.left text out fresh rest r.enough r.so_far some more

pub reached_start : (text : List ℕ) → Reached text [] true text
reached_start text = record { left = length text; enough = omega arith; so_far = refl }

no_front : (left : ℕ) (fresh : Bool) (rest : List ℕ) → length rest ≤ 0 → coded_by left fresh rest ≡ []
unfolding coded_by
no_front zero fresh [] h = refl
no_front zero fresh (b ∷ q) h = absurd (omega arith)
no_front (suc left) fresh [] h = refl
no_front (suc left) fresh (b ∷ q) h = absurd (omega arith)

pub reached_end : {text out : List ℕ} {fresh : Bool} {rest : List ℕ} → Reached text out fresh rest → length rest ≤ 0 → out ≡ coded text
reached_end {text} {out} {fresh} {rest} r h = sym (append-nil out) ∙ ap (λ (xs : List ℕ). out ++ xs) (sym (no_front r.left fresh rest h)) ∙ r.so_far

or_left : (a b : Bool) → (a || b) ≡ false → a ≡ false
or_left true b h = h
or_left false b h = refl

or_right : (a b : Bool) → (a || b) ≡ false → b ≡ false
or_right true b h = absurd (false≢true (sym h))
or_right false b h = h

-- a text without character constants stays
pub uncoded : (fuel : ℕ) (fresh : Bool) (text : List ℕ) → has_character_by fuel fresh text ≡ false → coded_by fuel fresh text ≡ text
unfolding coded_by has_character_by
uncoded zero fresh text none = refl
uncoded (suc fuel) fresh [] none = refl
uncoded (suc fuel) fresh (b ∷ q) none =
    let text = b ∷ q in
    let n = front_length fresh text in
    let front = take n text in
    let rest = has_character_by fuel (fresh_from fresh front) (drop n text) in
    ap (λ (t : Bool). written t front ++ coded_by fuel (fresh_from fresh front) (drop n text)) (or_left (is_coded text) rest none)
    ∙ ap (λ (xs : List ℕ). front ++ xs) (uncoded fuel (fresh_from fresh front) (drop n text) (or_right (is_coded text) rest none))
    ∙ take-append-drop n text
