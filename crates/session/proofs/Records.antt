-- The line of an accepted number, read again.
use Rattle.std.proofs.Common.{◌≡◌, ℕ, zero, suc, ◌+◌, ◌<◌, ◌≤◌, List, [], ◌∷◌, ◌++◌, length, Bool, true, false, ◌&&◌, cond, eqb, leb, ltb, Some, None, refl, sym, ap, ◌∙◌, arith, append-nil}
use Rattle.std.proofs.lemmas.Bool.Decides.{nat_tests}
use Rattle.std.proofs.lemmas.Bool.{true≢false}
use Rattle.std.specs.List.{list_all}
use Rattle.promela_session.specs.declared.line.LineEnd.TheVariants.{Whole}
use Rattle.promela_session.specs.declared.choice.Answer.TheVariants as answer
use Rattle.promela_session.specs.Events.{asks, record_line, all_digits, header}
use Rattle.promela_session.specs.declared.form.Stream.{Stream}
use Rattle.promela_session.specs.declared.form.Stream.TheVariants.{Unread, Known, Over}
use Rattle.promela_session.specs.declared.form.Version.TheVariants.{First}
use Rattle.profile.specs.declared.TheConstants.{LINE_BYTES}
use Rattle.profile.specs.Characters.{is_digit}
use Rattle.promela_session.specs.Lines.{line_within, lengthened, is_line_blank, end_trimmed, trimmed, number_up_to, is_quit, is_header, reply_of, without_front}
use Rattle.promela_session.specs.Session.{one_line, next_line, one_reply, ask_for_move}
use Rattle.std.specs.Prelude.{⊤, option_map}
use Rattle.std.specs.Str.{bytes_eq}
use Rattle.session.proofs.LineReading.{line_feed, line_byte}
use Rattle.session.proofs.Written.{all_are_digits, number_is}

both : (a b : Bool) → (a && b) ≡ true → (a ≡ true) × (b ≡ true)
both true b holds = (refl, holds)
both false b holds = absurd (true≢false (sym holds))

-- ---- words of digits

abbrev AreDigits : List ℕ → Type 0
AreDigits word = list_all is_digit word ≡ true

digit_not_blank : (b : ℕ) → is_digit b ≡ true → is_line_blank b ≡ false
digit_not_blank b digit = grind (arith, nat_tests)

digit_not_feed : (b : ℕ) → is_digit b ≡ true → eqb b 10 ≡ false
digit_not_feed b digit = grind (arith, nat_tests)

digit_not_c : (b : ℕ) → is_digit b ≡ true → eqb b 99 ≡ false
digit_not_c b digit = grind (arith, nat_tests)

digit_not_quit : (b : ℕ) → is_digit b ≡ true → eqb b 113 ≡ false
digit_not_quit b digit = grind (arith, nat_tests)

front_of_digits : (word : List ℕ) → AreDigits word → without_front is_line_blank word ≡ word
front_of_digits [] digits = refl
front_of_digits (b ∷ bs) digits = rw (digit_not_blank b (both (is_digit b) (list_all is_digit bs) digits).0) refl

end_of_digits : (word : List ℕ) → AreDigits word → end_trimmed word ≡ word
end_of_digits [] digits = refl
end_of_digits (b ∷ bs) digits =
    let d = both (is_digit b) (list_all is_digit bs) digits in
    rw (digit_not_blank b d.0) (ap (λ l. b ∷ l) (end_of_digits bs d.1))

trimmed_digits : (word : List ℕ) → AreDigits word → trimmed word ≡ word
trimmed_digits word digits = rw (front_of_digits word digits) (end_of_digits word digits)

digits_not_quit : (word : List ℕ) → AreDigits word → is_quit word ≡ false
digits_not_quit [] digits = refl
digits_not_quit (c ∷ []) digits = digit_not_quit c (both (is_digit c) true digits).0
digits_not_quit (c ∷ d ∷ rest) digits = refl

line_of_digits : (word more : List ℕ) (room : ℕ) → length word < room → AreDigits word → line_within room ((word ++ 10 ∷ []) ++ more) ≡ record { ends = Whole; bytes = word; left = more }
line_of_digits [] more zero fits digits = absurd (omega arith)
line_of_digits [] more (suc room) fits digits = line_feed room more
line_of_digits (b ∷ bs) more zero fits digits = absurd (omega arith)
line_of_digits (b ∷ bs) more (suc room) fits digits =
    let d = both (is_digit b) (list_all is_digit bs) digits in
    line_byte room b ((bs ++ 10 ∷ []) ++ more) (digit_not_feed b d.0) ∙ ap (lengthened (b ∷ [])) (line_of_digits bs more room (omega arith) d.1)

-- ---- the digits of a number

said_in : (n most : ℕ) → 0 < n → n ≤ most → (d : Bool) (v : ℕ) → d ≡ true → v ≡ n → option_map answer.Pick (cond (d && (ltb 0 v && leb v most)) (Some v) None) ≡ Some (answer.Pick n)
said_in n most some within d v digits is = let a : ltb 0 n ≡ true = grind (arith, nat_tests) in let b : leb n most ≡ true = grind (arith, nat_tests) in rw (digits, is, a, b) refl

record_said : (most n : ℕ) → 0 < n → n ≤ most → reply_of most (all_digits n) ≡ Some (answer.Pick n)
unfolding reply_of number_up_to
record_said most n some within =
    let digits = all_are_digits n in
    rw (trimmed_digits (all_digits n) digits) (rw (digits_not_quit (all_digits n) digits) (said_in n most some within _ _ digits (number_is n)))

-- choices of which nothing was read, or of the first version
abbrev pub IsPlain : Stream → Type 0
IsPlain Unread = ⊤
IsPlain (Known version) = version ≡ First
IsPlain Over = ⊥

digits_no_header : (word : List ℕ) → AreDigits word → bytes_eq word header ≡ false
digits_no_header [] digits = refl
digits_no_header (b ∷ bs) digits = rw (digit_not_c b (both (is_digit b) (list_all is_digit bs) digits).0) refl

number_no_header : (n : ℕ) → is_header (all_digits n) ≡ false
unfolding is_header
number_no_header n = rw (trimmed_digits (all_digits n) (all_are_digits n)) (digits_no_header (all_digits n) (all_are_digits n))

module _ (most : ℕ) (place : ℕ → ℕ × ℕ) (n : ℕ) (more : List ℕ) (some : 0 < n) (within : n ≤ most) (small : length (all_digits n) ≤ LINE_BYTES) where
  the_line : line_within (LINE_BYTES + 1) (record_line n ++ more) ≡ record { ends = Whole; bytes = all_digits n; left = more }
  the_line = line_of_digits (all_digits n) more (LINE_BYTES + 1) (omega (arith, small)) (all_are_digits n)

  record_one_line : one_line First most place (record_line n ++ more) ≡ record { events = asks (record_line n) false; value = Some (answer.Pick n); stream = Known First; left = more }
  unfolding one_line
  record_one_line = rw the_line (rw (record_said most n some within) refl)

  record_reply : (stream : Stream) → IsPlain stream → one_reply most place stream (record_line n ++ more) ≡ record { events = asks (record_line n) false; value = Some (answer.Pick n); stream = Known First; left = more }
  unfolding one_reply next_line
  record_reply Unread plain = rw the_line (rw (number_no_header n) record_one_line)
  record_reply (Known version) plain = rw plain record_one_line
  record_reply Over plain = absurd plain

  -- the line of a number that can be picked answers a question at once
  pub record_asked : (tries : ℕ) (stream : Stream) → IsPlain stream → ask_for_move most place tries stream (record_line n ++ more) ≡ record { events = asks (record_line n) false; value = answer.Pick n; stream = Known First; left = more }
  unfolding ask_for_move
  record_asked zero stream plain = rw (record_reply stream plain) (rw append-nil refl)
  record_asked (suc tries) stream plain = rw (record_reply stream plain) (rw append-nil refl)
