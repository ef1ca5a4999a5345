-- What a line of the second version says.
use Rattle.std.proofs.Common.{◌≡◌, ℕ, ◌-◌, ◌<◌, ◌≤◌, List, [], ◌∷◌, length, take, drop, get_or, Bool, true, false, cond, ◌&&◌, Option, Some, None, refl, sym, ap, ◌∙◌, arith}
use Rattle.std.proofs.lemmas.Bool.Decides.{nat_tests}
use Rattle.std.specs.Prelude.{unwrap_or, option_map}
use Rattle.std.proofs.lemmas.List.{length-drop, take_all}
use Rattle.std.proofs.lemmas.Option.{slice_get_read}
use Rattle.promela_session.specs.declared.choice.Answer.TheVariants as answer
use Rattle.profile.specs.Characters.{is_digit}
use Rattle.promela_session.specs.Lines.{is_line_blank, is_gap, is_quit, end_trimmed, without_front, trimmed, first_word, behind_word, number_up_to, writes, reply_of, placed_answer, placed_reply}
use Rattle.promela_machine.specs.Machine.{Rules}
use Rattle.promela_session.specs.Session.{place_of_move}

-- ---- what a line says

module _ (most : ℕ) (place : ℕ → ℕ × ℕ) (line : List ℕ) where
  pub reply_quit : is_quit (trimmed line) ≡ true → answer.Quit ≡ placed_reply most place line
  unfolding placed_reply
  reply_quit quit = rw quit refl

  pub reply_none : is_quit (trimmed line) ≡ false → number_up_to most (first_word (trimmed line)) ≡ None → answer.Misfit ≡ placed_reply most place line
  unfolding placed_reply placed_answer
  reply_none other none = rw (other, none) refl

  pub reply_some : (n : ℕ) → is_quit (trimmed line) ≡ false → number_up_to most (first_word (trimmed line)) ≡ Some n → (fits : Bool)
      → (writes (first_word (behind_word (trimmed line))) (place n).0 && writes (behind_word (behind_word (trimmed line))) (place n).1) ≡ fits → cond fits (answer.Pick n) answer.Misfit ≡ placed_reply most place line
  unfolding placed_reply placed_answer
  reply_some n other some fits is = rw (other, some, is) refl

-- the place of a move is that of its number
pub place_is : {S M : Type 0} (rules : Rules S M) (s : S) (moves : List M) (n : ℕ) (m : M) (place : ℕ × ℕ) → (0 < n) × (n ≤ length moves) → m ≡ get_or moves (n - 1) m → place ≡ rules.origin s m
    → place_of_move rules s moves n ≡ place
place_is {S} {M} rules s moves n m place range is at = ap (λ (o : Option M). unwrap_or (option_map (rules.origin s) o) (0, 0)) (slice_get_read moves (length moves) (n - 1) m refl (omega arith) is) ∙ sym at

-- two words write the place, or one of them does not
module _ (word line p l : List ℕ) (place at : ℕ × ℕ) (is : word ≡ line) (same : at ≡ place) (p_is : p ≡ first_word (behind_word word)) (l_is : l ≡ behind_word (behind_word word)) where
  pub both_are : writes p place.0 ≡ true → writes l place.1 ≡ true → (writes (first_word (behind_word line)) at.0 && writes (behind_word (behind_word line)) at.1) ≡ true
  both_are a b = rw (same, ← is, ← p_is, ← l_is, a, b) refl

  pub first_not : writes p place.0 ≡ false → (writes (first_word (behind_word line)) at.0 && writes (behind_word (behind_word line)) at.1) ≡ false
  first_not a = rw (same, ← is, ← p_is, a) refl

  pub second_not : writes p place.0 ≡ true → writes l place.1 ≡ false → (writes (first_word (behind_word line)) at.0 && writes (behind_word (behind_word line)) at.1) ≡ false
  second_not a b = rw (same, ← is, ← p_is, ← l_is, a, b) refl

-- ---- the first word, and what is behind it

pub word_short : (xs : List ℕ) → length (first_word xs) ≤ length xs
word_short [] = omega arith
word_short (x ∷ xs) = by (is_gap x) (word_short xs)
  where
    by : (gap : Bool) → length (first_word xs) ≤ length xs → length (cond gap [] (x ∷ first_word xs)) ≤ length (x ∷ xs)
    by true rest = omega arith
    by false rest = omega arith

behind_is : (xs : List ℕ) → without_front is_gap (drop (length (first_word xs)) xs) ≡ behind_word xs
behind_is [] = refl
behind_is (x ∷ xs) = by (is_gap x) refl (behind_is xs)
  where
    by : (gap : Bool) → is_gap x ≡ gap → without_front is_gap (drop (length (first_word xs)) xs) ≡ behind_word xs → without_front is_gap (drop (length (first_word (x ∷ xs))) (x ∷ xs)) ≡ behind_word (x ∷ xs)
    by true is rest = rw is (rw is refl)
    by false is rest = rw is rest

pub rest_is : (line word : List ℕ) → word ≡ first_word line → without_front is_gap (take (length line - length word) (drop (length word) line)) ≡ behind_word line
rest_is line word is =
    let rest = length-drop (length word) line in
    let all = take_all (length line - length word) (drop (length word) line) (omega arith) in
    ap (without_front is_gap) (all ∙ ap (λ (w : List ℕ). drop (length w) line) is) ∙ behind_is line

-- ---- a line of one digit

reply_digit : (most b n : ℕ) → is_digit b ≡ true → number_up_to most (b ∷ []) ≡ Some n → reply_of most (b ∷ []) ≡ Some (answer.Pick n)
unfolding reply_of
reply_digit most b n digit some =
    let word : is_line_blank b ≡ false = grind (arith, nat_tests) in
    let other : is_quit (b ∷ []) ≡ false = grind (arith, nat_tests) in
    let front : without_front is_line_blank (b ∷ []) ≡ b ∷ [] = rw word refl in
    let end : end_trimmed (b ∷ []) ≡ b ∷ [] = rw word refl in
    let whole : trimmed (b ∷ []) ≡ b ∷ [] = ap end_trimmed front ∙ end in
    rw (whole, other, some) refl

pub digit_said : (most : ℕ) (line : List ℕ) (n : ℕ) → length line ≡ 1 → is_digit (get_or line 0 0) ≡ true → number_up_to most (get_or line 0 0 ∷ []) ≡ Some n → Some (answer.Pick n) ≡ reply_of most line
digit_said most [] n one digit some = absurd (omega arith)
digit_said most (b ∷ []) n one digit some = sym (reply_digit most b n digit some)
digit_said most (b ∷ c ∷ bs) n one digit some = absurd (omega arith)
