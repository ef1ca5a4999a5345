-- The lines of the choices, how long they may be, and what one says.
-- Hold it against docs/FORMATS.md, 'Choices'.
use Rattle.std.specs.Prelude.{ℕ, ◌+◌, ◌-◌, ◌*◌, ◌==◌, nat_lt, nat_le, Bool, true, false, ◌&&◌, ◌||◌, if◌then◌else◌, List, [], ◌∷◌, ◌++◌, fold, length, Option, Some, None, option_map}
use Prim.Native.Nat.{zero, suc}
use Rattle.std.specs.List.{list_all}
use Rattle.std.specs.Str.{bytes_eq}
use Rattle.promela_session.specs.declared.form.Version.{Version}
use Rattle.promela_session.specs.declared.form.Version.TheVariants.{First, Second}
use Rattle.promela_session.specs.Events.{header}
use Rattle.promela_session.specs.declared.line.LineEnd.{LineEnd}
use Rattle.promela_session.specs.declared.line.LineEnd.TheVariants.{Whole, Last, TooLong}
use Rattle.promela_session.specs.declared.choice.Answer.{Answer}
use Rattle.promela_session.specs.declared.choice.Answer.TheVariants as answer
use Rattle.profile.specs.Characters.{line_feed, tab, carriage_return, space, zero_digit, is_digit, letter_q}

-- a line of the choices: how it ends, its bytes without a line feed, and the bytes behind it
pub record Line : Type 0 where
  pub ends : LineEnd
  pub bytes : List ℕ
  pub left : List ℕ

-- the same line with more bytes in front
abbrev pub lengthened : List ℕ → Line → Line
lengthened bs line = record { ends = line.ends; bytes = bs ++ line.bytes; left = line.left }

-- The first line of these bytes, where there is room for so many: up to a line feed, or to the end, or too long.
unfoldable pub line_within : ℕ → List ℕ → Line
line_within zero rest = record { ends = TooLong; bytes = []; left = rest }
line_within (suc room) [] = record { ends = Last; bytes = []; left = [] }
line_within (suc room) (b ∷ rest) =
    if b == line_feed then record { ends = Whole; bytes = []; left = rest } else lengthened (b ∷ []) (line_within room rest)

-- the bytes that are read for a line
abbrev pub read_of : LineEnd → List ℕ → List ℕ
read_of Whole bytes = bytes ++ line_feed ∷ []
read_of _ bytes = bytes

-- whether the end was seen
abbrev pub saw_end : LineEnd → Bool
saw_end Last = true
saw_end _ = false

-- a space, a tab or a carriage return
abbrev pub is_line_blank : ℕ → Bool
is_line_blank b = b == space || (b == tab || b == carriage_return)

-- bytes without those at their front of which this holds
abbrev pub without_front : (ℕ → Bool) → List ℕ → List ℕ
without_front holds [] = []
without_front holds (b ∷ bs) = if holds b then without_front holds bs else b ∷ bs

-- a word without the blanks at its end
abbrev pub end_trimmed : List ℕ → List ℕ
end_trimmed [] = []
end_trimmed (b ∷ bs) = if list_all is_line_blank (b ∷ bs) then [] else b ∷ end_trimmed bs

-- and without those at its front
abbrev pub trimmed : List ℕ → List ℕ
trimmed line = end_trimmed (without_front is_line_blank line)

-- the number that digits write
abbrev pub number_of : List ℕ → ℕ
number_of digits = fold (λ n b. 10 * n + (b - zero_digit)) 0 digits

-- the number of a word of digits, where it is from 1 to most
unfoldable pub number_up_to : ℕ → List ℕ → Option ℕ
number_up_to most word =
    if list_all is_digit word && (nat_lt 0 (number_of word) && nat_le (number_of word) most) then Some (number_of word) else None

-- the word `q`
abbrev pub is_quit : List ℕ → Bool
is_quit (c ∷ []) = c == letter_q
is_quit _ = false

-- what a line says to a question with so many moves: a number picks its move; `None` for a bad line
unfoldable pub reply_of : ℕ → List ℕ → Option Answer
reply_of most line = if is_quit (trimmed line) then Some answer.Quit else option_map answer.Pick (number_up_to most (trimmed line))

-- ---- the second version

-- a space or a tab
abbrev pub is_gap : ℕ → Bool
is_gap b = b == space || b == tab

-- a line up to its first gap
abbrev pub first_word : List ℕ → List ℕ
first_word [] = []
first_word (b ∷ bs) = if is_gap b then [] else b ∷ first_word bs

-- what is behind the first word and the gap that follows it
abbrev pub behind_word : List ℕ → List ℕ
behind_word [] = []
behind_word (b ∷ bs) = if is_gap b then without_front is_gap bs else behind_word bs

-- the word is not empty, has digits alone, and they write this number
abbrev pub writes : List ℕ → ℕ → Bool
writes word n = nat_lt 0 (length word) && (list_all is_digit word && number_of word == n)

-- a number picks its move where two words write the process and the line of that move
abbrev pub picked_at : (ℕ → ℕ × ℕ) → List ℕ → List ℕ → Option ℕ → Answer
picked_at place process line None = answer.Misfit
picked_at place process line (Some n) = if writes process (place n).0 && writes line (place n).1 then answer.Pick n else answer.Misfit

-- what three words say to a question with so many moves, each with its process and its line
unfoldable pub placed_answer : ℕ → (ℕ → ℕ × ℕ) → List ℕ → Answer
placed_answer most place word =
    picked_at place (first_word (behind_word word)) (behind_word (behind_word word)) (number_up_to most (first_word word))

-- what a line says
unfoldable pub placed_reply : ℕ → (ℕ → ℕ × ℕ) → List ℕ → Answer
placed_reply most place line = if is_quit (trimmed line) then answer.Quit else placed_answer most place (trimmed line)

-- what a line of this version says, or `None` for a bad line
abbrev pub reply_in : Version → ℕ → (ℕ → ℕ × ℕ) → List ℕ → Option Answer
reply_in First most place line = reply_of most line
reply_in Second most place line = Some (placed_reply most place line)

-- a line without its blanks is the first line of choices of the second version
unfoldable pub is_header : List ℕ → Bool
is_header line = bytes_eq (trimmed line) header
