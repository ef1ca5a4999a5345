-- The digits of a number of any size.
use Rattle.std.proofs.Common.{◌≡◌, ◌⊎◌, inl, inr, ℕ, zero, suc, ◌+◌, ◌-◌, ◌*◌, ◌/◌, ◌%◌, ◌<◌, ◌≤◌, ◌^◌, List, [], ◌∷◌, ◌++◌, length, fold, Bool, true, false, ◌&&◌, cond, ltb, leb, eqb, ltb-true, Option, Some, None, IfSome, refl, sym, ap, ◌∙◌, subst, arith, length-append}
use Rattle.std.proofs.lemmas.Bool.{cases_lt, lt-ltb, le-ltb, true≢false}
use Rattle.std.proofs.lemmas.Bool.Decides.{nat_tests}
use Rattle.std.proofs.lemmas.Fmt.{decimal_by_steps}
use Rattle.std.specs.Fmt.{decimal}
use Rattle.std.specs.List.{list_all}
use Rattle.std.specs.Prelude.{⊤, if◌then◌else◌, codes, option_map}
use Rattle.promela_session.specs.declared.line.LineEnd.{LineEnd}
use Rattle.promela_session.specs.declared.line.LineEnd.TheVariants.{Whole, Last, TooLong}
use Rattle.promela_session.specs.declared.choice.Answer.{Answer}
use Rattle.promela_session.specs.declared.choice.Answer.TheVariants as answer
use Rattle.profile.specs.declared.TheConstants.{LINE_BYTES}
use Rattle.profile.specs.Characters.{is_digit}
use Rattle.promela_session.specs.Lines.{Line, line_within, lengthened, is_line_blank, number_of, number_up_to, is_quit, is_gap, end_trimmed, trimmed, first_word, behind_word, writes, picked_at, placed_answer, placed_reply, reply_of, reply_in, read_of, saw_end, without_front}
use Rattle.promela_session.specs.Events.{asks, Part, preceded, digits_of, all_digits, record_line, placed_line}
use Rattle.promela_session.specs.Session.{one_line, next_line, one_reply, begins_second, stream_behind, reply_at, ask_for_move, after_line, only_this}
use Rattle.promela_session.specs.declared.form.Stream.{Stream}
use Rattle.promela_session.specs.declared.form.Stream.TheVariants.{Unread, Known, Over}
use Rattle.promela_session.specs.declared.form.Version.{Version}
use Rattle.promela_session.specs.declared.form.Version.TheVariants.{First, Second}

-- ---- one digit, and one more

one_digit : (room n : ℕ) → n < 10 → digits_of (suc room) n ≡ (48 + n) ∷ []
unfolding digits_of
one_digit room n h = rw (lt-ltb n 10 h) refl

more_digits : (room n : ℕ) → 10 ≤ n → digits_of (suc room) n ≡ digits_of room (n / 10) ++ (48 + n % 10) ∷ []
unfolding digits_of
more_digits room n h = rw (le-ltb n 10 h) refl

-- no more room is needed than for the number itself
enough : (r q n : ℕ) → n < r → n < q → digits_of r n ≡ digits_of q n
enough zero q n h k = absurd (omega (arith, h))
enough (suc r) zero n h k = absurd (omega (arith, k))
enough (suc r) (suc q) n h k = by (λ a b. enough r q (n / 10) a b) (cases_lt n 10)
  where
    by : (n / 10 < r → n / 10 < q → digits_of r (n / 10) ≡ digits_of q (n / 10)) → (n < 10) ⊎ (10 ≤ n) → digits_of (suc r) n ≡ digits_of (suc q) n
    by again (inl l) = one_digit r n l ∙ sym (one_digit q n l)
    by again (inr l) = more_digits r n l ∙ ap (λ (ds : List ℕ). ds ++ (48 + n % 10) ∷ []) (again (omega (arith, h, l)) (omega (arith, k, l))) ∙ sym (more_digits q n l)

pub all_one : (n : ℕ) → n < 10 → all_digits n ≡ (48 + n) ∷ []
unfolding all_digits
all_one n h = one_digit n n h

pub all_more : (n : ℕ) → 10 ≤ n → all_digits n ≡ all_digits (n / 10) ++ (48 + n % 10) ∷ []
unfolding all_digits
all_more n h = more_digits n n h ∙ ap (λ (ds : List ℕ). ds ++ (48 + n % 10) ∷ []) (enough n (suc (n / 10)) (n / 10) (omega (arith, h)) (omega arith))

-- induction on the digits: one digit, then one more at the end
module _ (P : ℕ → List ℕ → Type 0) (one : (n : ℕ) → n < 10 → P n ((48 + n) ∷ [])) (more : (n : ℕ) (ds : List ℕ) → 10 ≤ n → P (n / 10) ds → P n (ds ++ (48 + n % 10) ∷ [])) where
  by_room : (k n : ℕ) → n ≤ k → P n (all_digits n)
  by_room zero n h = subst (P n) (sym (all_one n (omega (arith, h)))) (one n (omega (arith, h)))
  by_room (suc k) n h = by (λ a. by_room k (n / 10) a) (cases_lt n 10)
    where
      by : (n / 10 ≤ k → P (n / 10) (all_digits (n / 10))) → (n < 10) ⊎ (10 ≤ n) → P n (all_digits n)
      by again (inl l) = subst (P n) (sym (all_one n l)) (one n l)
      by again (inr l) = subst (P n) (sym (all_more n l)) (more n (all_digits (n / 10)) l (again (omega (arith, h, l))))

  pub by_digits : (n : ℕ) → P n (all_digits n)
  by_digits n = by_room n n (omega arith)

-- below 2 ^ 64 they are the decimal text that is known
pub decimal_is : (n : ℕ) → n < 2 ^ 64 → decimal n ≡ all_digits n
decimal_is n small = decimal_by_steps (λ m ds. ds ≡ all_digits m) (λ m l. sym (all_one m l)) (λ m ds l h. ap (λ (es : List ℕ). es ++ (48 + m % 10) ∷ []) h ∙ sym (all_more m l)) n small

-- ---- how many digits

abbrev pub tens : ℕ → ℕ
tens zero = 10
tens (suc k) = 10 * tens k

pub few_digits : (k n : ℕ) → n < tens k → length (all_digits n) ≤ suc k
few_digits zero n h = let e = ap length (all_one n h) in omega (arith, e)
few_digits (suc k) n h = by (few_digits k (n / 10)) (cases_lt n 10)
  where
    by : (n / 10 < tens k → length (all_digits (n / 10)) ≤ suc k) → (n < 10) ⊎ (10 ≤ n) → length (all_digits n) ≤ suc (suc k)
    by again (inl l) = let e = ap length (all_one n l) in omega (arith, e)
    by again (inr l) =
        let e = ap length (all_more n l) in
        let f = length-append (all_digits (n / 10)) ((48 + n % 10) ∷ []) in
        let g = again (omega (arith, h)) in
        omega (arith, e, f, g)

pub record_readable : (n : ℕ) → n < 2 ^ 64 → length (record_line n) ≤ LINE_BYTES + 1
record_readable n small =
    let few = few_digits 19 n (omega (arith, small)) in
    let all = length-append (all_digits n) (codes "\n") in
    omega (arith, few, all)

pub placed_readable : (n p l : ℕ) → n < 2 ^ 64 → p < 2 ^ 32 → l < 2 ^ 32 → length (placed_line n (p, l)) ≤ LINE_BYTES + 1
placed_readable n p l small_n small_p small_l =
    let a = few_digits 19 n (omega (arith, small_n)) in
    let b = few_digits 9 p (omega (arith, small_p)) in
    let c = few_digits 9 l (omega (arith, small_l)) in
    let x = length-append (all_digits n) (codes " " ++ (all_digits p ++ (codes " " ++ (all_digits l ++ codes "\n")))) in
    let y = length-append (all_digits p) (codes " " ++ (all_digits l ++ codes "\n")) in
    let z = length-append (all_digits l) (codes "\n") in
    omega (arith, a, b, c, x, y, z)

-- the line of a number with the place of its move
pub placed_text : (n p l : ℕ) → n < 2 ^ 64 → p < 2 ^ 64 → l < 2 ^ 64 → decimal n ++ (codes " " ++ (decimal p ++ (codes " " ++ (decimal l ++ codes "\n")))) ≡ placed_line n (p, l)
placed_text n p l a b c = rw (decimal_is n a, decimal_is p b, decimal_is l c) refl

-- ---- they are digits, and read as the number

is_one : (d : ℕ) → d < 10 → is_digit (48 + d) ≡ true
is_one d h = grind (arith, nat_tests)

all_behind : (ds : List ℕ) (b : ℕ) → list_all is_digit ds ≡ true → is_digit b ≡ true → list_all is_digit (ds ++ b ∷ []) ≡ true
all_behind [] b h k = rw k refl
all_behind (d ∷ ds) b h k = by (λ e. all_behind ds b e k) (is_digit d) h
  where
    by : (list_all is_digit ds ≡ true → list_all is_digit (ds ++ b ∷ []) ≡ true) → (t : Bool) → (t && list_all is_digit ds) ≡ true → (t && list_all is_digit (ds ++ b ∷ [])) ≡ true
    by again true e = again e
    by again false e = absurd (true≢false (sym e))

pub all_are_digits : (n : ℕ) → list_all is_digit (all_digits n) ≡ true
all_are_digits n = by_digits (λ m ds. list_all is_digit ds ≡ true) (λ m l. rw (is_one m l) refl) (λ m ds l h. all_behind ds (48 + m % 10) h (is_one (m % 10) (omega arith))) n

abbrev read_on : ℕ → ℕ → ℕ
read_on v b = 10 * v + (b - 48)

read_behind : (ds : List ℕ) (a b : ℕ) → fold read_on a (ds ++ b ∷ []) ≡ 10 * fold read_on a ds + (b - 48)
read_behind [] a b = refl
read_behind (d ∷ ds) a b = read_behind ds (read_on a d) b

pub number_is : (n : ℕ) → number_of (all_digits n) ≡ n
number_is n =
    by_digits (λ m ds. number_of ds ≡ m) (λ m l. let e : 10 * 0 + (48 + m - 48) ≡ m = omega arith in e)
    (λ m ds l h. read_behind ds 0 (48 + m % 10) ∙ ap (λ (v : ℕ). 10 * v + (48 + m % 10 - 48)) h ∙ (let e : 10 * (m / 10) + (48 + m % 10 - 48) ≡ m = omega arith in e)) n

-- ---- a number has no more digits than a word that writes it

one_longer : (a d : ℕ) → d < 10 → length (all_digits (10 * a + d)) ≤ length (all_digits a) + 1
one_longer a d h = by (cases_lt (10 * a + d) 10)
  where
    by : ((10 * a + d) < 10) ⊎ (10 ≤ (10 * a + d)) → length (all_digits (10 * a + d)) ≤ length (all_digits a) + 1
    by (inl l) = let e = ap length (all_one (10 * a + d) l) in omega (arith, e)
    by (inr l) =
        let front : (10 * a + d) / 10 ≡ a = omega (arith, h) in
        let e = ap length (all_more (10 * a + d) l ∙ ap (λ (m : ℕ). all_digits m ++ (48 + (10 * a + d) % 10) ∷ []) front) in
        omega (arith, e, length-append (all_digits a) ((48 + (10 * a + d) % 10) ∷ []))

digit_small : (b : ℕ) → is_digit b ≡ true → b - 48 < 10
digit_small b h = grind (arith, nat_tests)

both : (a b : Bool) → (a && b) ≡ true → (a ≡ true) × (b ≡ true)
both true b holds = (refl, holds)
both false b holds = absurd (true≢false (sym holds))

longer : (bs : List ℕ) (a l : ℕ) → length (all_digits a) ≤ l → list_all is_digit bs ≡ true → length (all_digits (fold read_on a bs)) ≤ l + length bs
longer [] a l h d = omega (arith, h)
longer (b ∷ bs) a l h d =
    let x = both (is_digit b) (list_all is_digit bs) d in
    let step = one_longer a (b - 48) (digit_small b x.0) in
    let rest = longer bs (read_on a b) (l + 1) (omega (arith, step, h)) x.1 in
    omega (arith, rest)

pub no_longer : (word : List ℕ) → list_all is_digit word ≡ true → 0 < number_of word → length (all_digits (number_of word)) ≤ length word
no_longer [] d some = absurd (omega (arith, some))
no_longer (b ∷ bs) d some =
    let x = both (is_digit b) (list_all is_digit bs) d in
    let digit = digit_small b x.0 in
    let small : read_on 0 b < 10 = omega (arith, digit) in
    let first = ap length (all_one (read_on 0 b) small) in
    let rest = longer bs (read_on 0 b) 1 (omega (arith, first)) x.1 in
    omega (arith, rest)

-- ---- a number that a line answers with fits a line

abbrev pub IsShort : Answer → Type 0
IsShort (answer.Pick n) = length (all_digits n) ≤ LINE_BYTES
IsShort answer.Quit = ⊤
IsShort answer.Ended = ⊤
IsShort answer.TooLong = ⊤
IsShort answer.Hundred = ⊤
IsShort answer.Misfit = ⊤

front_shorter : (bs : List ℕ) → length (without_front is_line_blank bs) ≤ length bs
front_shorter [] = omega arith
front_shorter (b ∷ bs) = by (is_line_blank b) (front_shorter bs)
  where
    by : (t : Bool) → length (without_front is_line_blank bs) ≤ length bs → length (if t then without_front is_line_blank bs else b ∷ bs) ≤ length (b ∷ bs)
    by true h = omega (arith, h)
    by false h = omega arith

end_shorter : (bs : List ℕ) → length (end_trimmed bs) ≤ length bs
end_shorter [] = omega arith
end_shorter (b ∷ bs) = by (list_all is_line_blank (b ∷ bs)) (end_shorter bs)
  where
    by : (t : Bool) → length (end_trimmed bs) ≤ length bs → length (if t then [] else b ∷ end_trimmed bs) ≤ length (b ∷ bs)
    by true h = omega arith
    by false h = omega (arith, h)

number_short : (most : ℕ) (word : List ℕ) → length word ≤ LINE_BYTES → IfSome (option_map answer.Pick (number_up_to most word)) IsShort
unfolding number_up_to
number_short most word h = by (list_all is_digit word) (ltb 0 (number_of word)) (leb (number_of word) most) refl (ltb-true 0 (number_of word))
  where
    by : (d a b : Bool) → list_all is_digit word ≡ d → (a ≡ true → 0 < number_of word) → IfSome (option_map answer.Pick (cond (d && (a && b)) (Some (number_of word)) None)) IsShort
    by true true true e some = let l = no_longer word e (some refl) in omega (arith, l, h)
    by true true false e some = tt
    by true false b e some = tt
    by false a b e some = tt

reply_short : (most : ℕ) (line : List ℕ) → length line ≤ LINE_BYTES → IfSome (reply_of most line) IsShort
unfolding reply_of
reply_short most line h = by_quit (is_quit (trimmed line))
  where
    by_quit : (q : Bool) → IfSome (cond q (Some answer.Quit) (option_map answer.Pick (number_up_to most (trimmed line)))) IsShort
    by_quit true = tt
    by_quit false = let a = front_shorter line in let b = end_shorter (without_front is_line_blank line) in number_short most (trimmed line) (omega (arith, a, b, h))

-- the number of a line with the place of its move
first_no_longer : (bs : List ℕ) → length (first_word bs) ≤ length bs
first_no_longer [] = omega arith
first_no_longer (b ∷ bs) = by (is_gap b) (first_no_longer bs)
  where
    by : (t : Bool) → length (first_word bs) ≤ length bs → length (if t then [] else b ∷ first_word bs) ≤ length (b ∷ bs)
    by true h = omega arith
    by false h = omega (arith, h)

picked_short : (place : ℕ → ℕ × ℕ) (p l : List ℕ) (k : Option ℕ) → IfSome (option_map answer.Pick k) IsShort → IsShort (picked_at place p l k)
picked_short place p l None h = tt
picked_short place p l (Some n) h = by (writes p (place n).0 && writes l (place n).1)
  where
    by : (t : Bool) → IsShort (if t then answer.Pick n else answer.Misfit)
    by true = h
    by false = tt

placed_short : (most : ℕ) (place : ℕ → ℕ × ℕ) (line : List ℕ) → length line ≤ LINE_BYTES → IsShort (placed_reply most place line)
unfolding placed_reply placed_answer
placed_short most place line h = by_quit (is_quit (trimmed line))
  where
    by_quit : (q : Bool) → IsShort (if q then answer.Quit else placed_answer most place (trimmed line))
    by_quit true = tt
    by_quit false =
        let a = front_shorter line in
        let b = end_shorter (without_front is_line_blank line) in
        let c = first_no_longer (trimmed line) in
        picked_short place (first_word (behind_word (trimmed line))) (behind_word (behind_word (trimmed line))) (number_up_to most (first_word (trimmed line))) (number_short most (first_word (trimmed line)) (omega (arith, a, b, c, h)))

reply_in_short : (version : Version) (most : ℕ) (place : ℕ → ℕ × ℕ) (line : List ℕ) → length line ≤ LINE_BYTES → IfSome (reply_in version most place line) IsShort
reply_in_short First most place line h = reply_short most line h
reply_in_short Second most place line h = placed_short most place line h

-- a line that is no longer than it may be has room to spare
abbrev Spared : ℕ → Line → Type 0
Spared room line = elim line.ends as (λ _. Type 0) [
  | Whole ↦ length line.bytes < room
  | Last ↦ length line.bytes < room
  | TooLong ↦ ⊤
]

spared_more : (room b : ℕ) (line : Line) → Spared room line → Spared (suc room) (lengthened (b ∷ []) line)
spared_more room b line h = by line.ends line.bytes line.left h
  where
    by : (e : LineEnd) (bs left : List ℕ) → Spared room (record { ends = e; bytes = bs; left = left }) → Spared (suc room) (record { ends = e; bytes = b ∷ bs; left = left })
    by Whole bs left h = omega (arith, h)
    by Last bs left h = omega (arith, h)
    by TooLong bs left h = tt

spared : (room : ℕ) (rest : List ℕ) → Spared room (line_within room rest)
unfolding line_within
spared zero rest = tt
spared (suc room) [] = omega arith
spared (suc room) (b ∷ rest) = by (eqb b 10) (spared room rest)
  where
    by : (t : Bool) → Spared room (line_within room rest) → Spared (suc room) (if t then record { ends = Whole; bytes = []; left = rest } else lengthened (b ∷ []) (line_within room rest))
    by true h = omega arith
    by false h = spared_more room b (line_within room rest) h

reply_at_short : (version : Version) (most : ℕ) (place : ℕ → ℕ × ℕ) (ends : LineEnd) (bytes left : List ℕ) → Spared (LINE_BYTES + 1) (record { ends = ends; bytes = bytes; left = left }) → IfSome (reply_at version most place ends bytes) IsShort
reply_at_short version most place Whole bytes left h = reply_in_short version most place bytes (omega (arith, h))
reply_at_short version most place TooLong bytes left h = tt
reply_at_short version most place Last [] left h = tt
reply_at_short version most place Last (b ∷ bs) left h = reply_in_short version most place (b ∷ bs) (omega (arith, h))

line_short : (version : Version) (most : ℕ) (place : ℕ → ℕ × ℕ) (rest : List ℕ) → IfSome (one_line version most place rest).value IsShort
unfolding one_line
line_short version most place rest = let line = line_within (LINE_BYTES + 1) rest in reply_at_short version most place line.ends line.bytes line.left (spared (LINE_BYTES + 1) rest)

next_short : (most : ℕ) (place : ℕ → ℕ × ℕ) (stream : Stream) (rest : List ℕ) → IfSome (next_line most place stream rest).value IsShort
unfolding next_line
next_short most place Unread rest = line_short First most place rest
next_short most place (Known version) rest = line_short version most place rest
next_short most place Over rest = tt

one_short : (most : ℕ) (place : ℕ → ℕ × ℕ) (stream : Stream) (rest : List ℕ) → IfSome (one_reply most place stream rest).value IsShort
unfolding one_reply
one_short most place Unread rest = let line = line_within (LINE_BYTES + 1) rest in by line (begins_second line.ends line.bytes)
  where
    by : (line : Line) (t : Bool)
        → IfSome (if t then preceded (asks (read_of line.ends line.bytes) (saw_end line.ends)) (next_line most place (stream_behind Second line.ends) line.left) else next_line most place Unread rest).value IsShort
    by line true = next_short most place (stream_behind Second line.ends) line.left
    by line false = next_short most place Unread rest
one_short most place (Known version) rest = next_short most place (Known version) rest
one_short most place Over rest = next_short most place Over rest

after_short : (more : Stream → List ℕ → Part Answer) → ((stream : Stream) (left : List ℕ) → IsShort (more stream left).value) → (said : Option Answer) (stream : Stream) (left : List ℕ) → IfSome said IsShort → IsShort (after_line more said stream left).value
after_short more short (Some said) stream left here = here
after_short more short None stream left here = short stream left

pub ask_short : (most : ℕ) (place : ℕ → ℕ × ℕ) (tries : ℕ) (stream : Stream) (rest : List ℕ) → IsShort (ask_for_move most place tries stream rest).value
unfolding ask_for_move
ask_short most place zero stream rest = let one = one_reply most place stream rest in after_short (only_this answer.Hundred) (λ o l. tt) one.value one.stream one.left (one_short most place stream rest)
ask_short most place (suc tries) stream rest = let one = one_reply most place stream rest in after_short _ (λ o l. ask_short most place tries o l) one.value one.stream one.left (one_short most place stream rest)
