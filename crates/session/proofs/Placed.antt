-- The lines of converted choices, read again.
use Rattle.std.proofs.Common.{◌≡◌, ℕ, zero, suc, ◌+◌, ◌%◌, ◌<◌, ◌≤◌, List, [], ◌∷◌, ◌++◌, length, Bool, true, false, ◌&&◌, cond, eqb, leb, ltb, Some, None, refl, sym, ap, ◌∙◌, arith, append-nil, append_assoc, length-append}
use Rattle.std.proofs.lemmas.Bool.{true≢false, lt-ltb, eq-eqb}
use Rattle.std.proofs.lemmas.Bool.Decides.{nat_tests}
use Rattle.std.proofs.lemmas.List.Folds.{list_all-append}
use Rattle.std.specs.List.{list_all}
use Rattle.std.specs.Prelude.{not}
use Rattle.promela_session.specs.declared.line.LineEnd.TheVariants.{Whole}
use Rattle.promela_session.specs.declared.choice.Answer.TheVariants as answer
use Rattle.promela_session.specs.declared.form.Stream.TheVariants.{Unread, Known}
use Rattle.promela_session.specs.declared.form.Version.TheVariants.{Second}
use Rattle.promela_session.specs.Events.{asks, preceded, all_digits, placed_line, header, header_line}
use Rattle.profile.specs.declared.TheConstants.{LINE_BYTES}
use Rattle.profile.specs.Characters.{is_digit}
use Rattle.promela_session.specs.Lines.{line_within, lengthened, is_line_blank, is_gap, end_trimmed, trimmed, is_quit, is_header, first_word, behind_word, number_up_to, writes, placed_answer, placed_reply, without_front}
use Rattle.promela_session.specs.Session.{one_line, next_line, one_reply, ask_for_move}
use Rattle.session.proofs.LineReading.{line_feed, line_byte}
use Rattle.session.proofs.Written.{all_are_digits, number_is, by_digits}

both : (a b : Bool) → (a && b) ≡ true → (a ≡ true) × (b ≡ true)
both true b holds = (refl, holds)
both false b holds = absurd (true≢false (sym holds))

-- ---- the words of a line

abbrev AreDigits : List ℕ → Type 0
AreDigits word = list_all is_digit word ≡ true

digit_not_blank : (b : ℕ) → is_digit b ≡ true → is_line_blank b ≡ false
digit_not_blank b digit = grind (arith, nat_tests)

digit_not_gap : (b : ℕ) → is_digit b ≡ true → is_gap b ≡ false
digit_not_gap b digit = grind (arith, nat_tests)

digit_not_feed : (b : ℕ) → is_digit b ≡ true → eqb b 10 ≡ false
digit_not_feed b digit = grind (arith, nat_tests)

digits_some : (n : ℕ) → 0 < length (all_digits n)
digits_some n = by_digits (λ m ds. 0 < length ds) (λ m l. omega arith) (λ m ds l h. let e = length-append ds ((48 + m % 10) ∷ []) in omega arith) n

word_of : (ds rest : List ℕ) → AreDigits ds → first_word (ds ++ 32 ∷ rest) ≡ ds
word_of [] rest digits = refl
word_of (d ∷ ds) rest digits =
    let d2 = both (is_digit d) (list_all is_digit ds) digits in
    rw (digit_not_gap d d2.0) (ap (λ l. d ∷ l) (word_of ds rest d2.1))

behind_of : (ds rest : List ℕ) → AreDigits ds → behind_word (ds ++ 32 ∷ rest) ≡ without_front is_gap rest
behind_of [] rest digits = refl
behind_of (d ∷ ds) rest digits =
    let d2 = both (is_digit d) (list_all is_digit ds) digits in
    rw (digit_not_gap d d2.0) (behind_of ds rest d2.1)

no_gap : (ds rest : List ℕ) → AreDigits ds → 0 < length ds → without_front is_gap (ds ++ rest) ≡ ds ++ rest
no_gap [] rest digits some = absurd (omega arith)
no_gap (d ∷ ds) rest digits some = rw (digit_not_gap d (both (is_digit d) (list_all is_digit ds) digits).0) refl

not_quit : (ds rest : List ℕ) → 0 < length ds → is_quit (ds ++ 32 ∷ rest) ≡ false
not_quit [] rest some = absurd (omega arith)
not_quit (d ∷ []) rest some = refl
not_quit (d ∷ e ∷ ds) rest some = refl

front_kept : (ds rest : List ℕ) → AreDigits ds → 0 < length ds → without_front is_line_blank (ds ++ rest) ≡ ds ++ rest
front_kept [] rest digits some = absurd (omega arith)
front_kept (d ∷ ds) rest digits some = rw (digit_not_blank d (both (is_digit d) (list_all is_digit ds) digits).0) refl

not_blank : (xs ds : List ℕ) → AreDigits ds → 0 < length ds → list_all is_line_blank (xs ++ ds) ≡ false
not_blank [] [] digits some = absurd (omega arith)
not_blank [] (d ∷ ds) digits some = rw (digit_not_blank d (both (is_digit d) (list_all is_digit ds) digits).0) refl
not_blank (x ∷ xs) ds digits some = rw (not_blank xs ds digits some) (by (is_line_blank x))
  where
    by : (t : Bool) → (t && false) ≡ false
    by true = refl
    by false = refl

end_kept : (xs ds : List ℕ) → AreDigits ds → 0 < length ds → end_trimmed (xs ++ ds) ≡ xs ++ ds
end_kept [] [] digits some = absurd (omega arith)
end_kept [] (d ∷ []) digits some = rw (digit_not_blank d (both (is_digit d) true digits).0) refl
end_kept [] (d ∷ e ∷ ds) digits some =
    let d2 = both (is_digit d) (list_all is_digit (e ∷ ds)) digits in
    rw (digit_not_blank d d2.0) (ap (λ l. d ∷ l) (end_kept [] (e ∷ ds) d2.1 (omega arith)))
end_kept (x ∷ xs) ds digits some = rw (not_blank (x ∷ xs) ds digits some) (ap (λ l. x ∷ l) (end_kept xs ds digits some))

-- ---- what such a line says

-- a number, and two more behind it
abbrev spaced : ℕ → ℕ × ℕ → List ℕ
spaced n place = all_digits n ++ 32 ∷ (all_digits place.0 ++ 32 ∷ all_digits place.1)

trimmed_spaced : (n : ℕ) (place : ℕ × ℕ) → trimmed (spaced n place) ≡ spaced n place
trimmed_spaced n place =
    let front = front_kept (all_digits n) (32 ∷ (all_digits place.0 ++ 32 ∷ all_digits place.1)) (all_are_digits n) (digits_some n) in
    let regroup : spaced n place ≡ (all_digits n ++ 32 ∷ (all_digits place.0 ++ 32 ∷ [])) ++ all_digits place.1 = rw append_assoc (ap (λ l. all_digits n ++ 32 ∷ l) (sym (append_assoc (all_digits place.0) (32 ∷ []) (all_digits place.1)))) in
    ap end_trimmed (front ∙ regroup) ∙ (end_kept (all_digits n ++ 32 ∷ (all_digits place.0 ++ 32 ∷ [])) (all_digits place.1) (all_are_digits place.1) (digits_some place.1) ∙ sym regroup)

numbered : (n most : ℕ) → 0 < n → n ≤ most → (d : Bool) (v : ℕ) → d ≡ true → v ≡ n → cond (d && (ltb 0 v && leb v most)) (Some v) None ≡ Some n
numbered n most some within d v digits is = let a : ltb 0 n ≡ true = grind (arith, nat_tests) in let b : leb n most ≡ true = grind (arith, nat_tests) in rw (digits, is, a, b) refl

number_said : (n most : ℕ) → 0 < n → n ≤ most → number_up_to most (all_digits n) ≡ Some n
unfolding number_up_to
number_said n most some within = numbered n most some within _ _ (all_are_digits n) (number_is n)

writes_itself : (n : ℕ) → writes (all_digits n) n ≡ true
writes_itself n = rw (lt-ltb 0 (length (all_digits n)) (digits_some n), all_are_digits n, number_is n, eq-eqb n n refl) refl

placed_said : (most : ℕ) (place : ℕ → ℕ × ℕ) (n : ℕ) → 0 < n → n ≤ most → placed_reply most place (spaced n (place n)) ≡ answer.Pick n
unfolding placed_reply placed_answer
placed_said most place n some within =
    let p = all_digits (place n).0 in
    let l = all_digits (place n).1 in
    let first = word_of (all_digits n) (p ++ 32 ∷ l) (all_are_digits n) in
    let behind : behind_word (spaced n (place n)) ≡ p ++ 32 ∷ l = behind_of (all_digits n) (p ++ 32 ∷ l) (all_are_digits n) ∙ no_gap p (32 ∷ l) (all_are_digits (place n).0) (digits_some (place n).0) in
    let second_is : first_word (p ++ 32 ∷ l) ≡ p = word_of p l (all_are_digits (place n).0) in
    let third : behind_word (p ++ 32 ∷ l) ≡ l = behind_of p l (all_are_digits (place n).0) ∙ (ap (without_front is_gap) (sym (append-nil l)) ∙ (no_gap l [] (all_are_digits (place n).1) (digits_some (place n).1) ∙ append-nil l)) in
    rw (trimmed_spaced n (place n), not_quit (all_digits n) (p ++ 32 ∷ l) (digits_some n), first, behind, second_is, third, number_said n most some within) (rw (writes_itself (place n).0, writes_itself (place n).1) refl)

-- ---- reading lines without a line feed

abbrev is_no_feed : ℕ → Bool
is_no_feed b = not (eqb b 10)

not_true : (t : Bool) → not t ≡ true → t ≡ false
not_true true h = sym h
not_true false h = refl

line_of : (word more : List ℕ) (room : ℕ) → length word < room → list_all is_no_feed word ≡ true → line_within room ((word ++ 10 ∷ []) ++ more) ≡ record { ends = Whole; bytes = word; left = more }
line_of [] more zero fits feeds = absurd (omega arith)
line_of [] more (suc room) fits feeds = line_feed room more
line_of (b ∷ bs) more zero fits feeds = absurd (omega arith)
line_of (b ∷ bs) more (suc room) fits feeds =
    let d = both (is_no_feed b) (list_all is_no_feed bs) feeds in
    line_byte room b ((bs ++ 10 ∷ []) ++ more) (not_true (eqb b 10) d.0) ∙ ap (lengthened (b ∷ [])) (line_of bs more room (omega arith) d.1)

digits_no_feed : (ds : List ℕ) → AreDigits ds → list_all is_no_feed ds ≡ true
digits_no_feed [] digits = refl
digits_no_feed (d ∷ ds) digits =
    let d2 = both (is_digit d) (list_all is_digit ds) digits in
    rw (digit_not_feed d d2.0) (digits_no_feed ds d2.1)

spaced_no_feed : (n : ℕ) (place : ℕ × ℕ) → list_all is_no_feed (spaced n place) ≡ true
spaced_no_feed n place =
    rw (
      list_all-append is_no_feed (all_digits n) (32 ∷ (all_digits place.0 ++ 32 ∷ all_digits place.1)),
      digits_no_feed (all_digits n) (all_are_digits n),
      list_all-append is_no_feed (all_digits place.0) (32 ∷ all_digits place.1),
      digits_no_feed (all_digits place.0) (all_are_digits place.0),
      digits_no_feed (all_digits place.1) (all_are_digits place.1),
    ) refl

placed_is : (n : ℕ) (place : ℕ × ℕ) → placed_line n place ≡ spaced n place ++ 10 ∷ []
placed_is n place = rw append_assoc (ap (λ l. all_digits n ++ 32 ∷ l) (rw append_assoc refl))

module _ (most : ℕ) (place : ℕ → ℕ × ℕ) (n : ℕ) (more : List ℕ) (some : 0 < n) (within : n ≤ most) (fits : length (placed_line n (place n)) ≤ LINE_BYTES + 1) where
  the_line : line_within (LINE_BYTES + 1) (placed_line n (place n) ++ more) ≡ record { ends = Whole; bytes = spaced n (place n); left = more }
  the_line =
      let e = ap length (placed_is n (place n)) in
      let f = length-append (spaced n (place n)) (10 ∷ []) in
      ap (λ l. line_within (LINE_BYTES + 1) (l ++ more)) (placed_is n (place n)) ∙ line_of (spaced n (place n)) more (LINE_BYTES + 1) (omega arith) (spaced_no_feed n (place n))

  placed_one_line : one_line Second most place (placed_line n (place n) ++ more) ≡ record { events = asks (placed_line n (place n)) false; value = Some (answer.Pick n); stream = Known Second; left = more }
  unfolding one_line
  placed_one_line = rw (the_line, placed_said most place n some within, placed_is n (place n)) refl

  pub placed_asked : (tries : ℕ) → ask_for_move most place tries (Known Second) (placed_line n (place n) ++ more) ≡ record { events = asks (placed_line n (place n)) false; value = answer.Pick n; stream = Known Second; left = more }
  unfolding ask_for_move one_reply next_line
  placed_asked zero = rw placed_one_line (rw append-nil refl)
  placed_asked (suc tries) = rw placed_one_line (rw append-nil refl)

header_read : (rest : List ℕ) → line_within (LINE_BYTES + 1) (header_line ++ rest) ≡ record { ends = Whole; bytes = header; left = rest }
header_read rest = line_of header rest (LINE_BYTES + 1) (omega arith) refl

module _ (most : ℕ) (place : ℕ → ℕ × ℕ) (rest : List ℕ) where
  header_reply : one_reply most place Unread (header_line ++ rest) ≡ preceded (asks header_line false) (one_reply most place (Known Second) rest)
  unfolding one_reply next_line is_header
  header_reply = rw (header_read rest) refl

  pub header_asked : (tries : ℕ) → ask_for_move most place tries Unread (header_line ++ rest) ≡ preceded (asks header_line false) (ask_for_move most place tries (Known Second) rest)
  unfolding ask_for_move
  header_asked zero = rw header_reply refl
  header_asked (suc tries) = rw header_reply refl
