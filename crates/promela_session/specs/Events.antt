-- What a session does, one thing after another, what of it each device sees, a part of a session, and the lines that it writes.
-- Hold it against docs/FORMATS.md, 'Lines on standard output' and 'Choices'.
use Rattle.std.specs.Prelude.{ℕ, List, ◌++◌, [], ◌∷◌, map, sum_by, Bool, true, false, if◌then◌else◌, zero, suc, ◌+◌, ◌/◌, ◌%◌, nat_lt, codes}
use Rattle.promela_session.specs.declared.form.Stream.{Stream}
use Rattle.std.specs.List.{flat_map}
use Rattle.std.specs.Fmt.{decimal}
use Rattle.profile.specs.Characters.{zero_digit}
use Rattle.diagnostics.specs.declared.fault.Fault.{Fault}
use Rattle.diagnostics.specs.declared.refusal.Refusal.{Refusal}
use Rattle.diagnostics.specs.Numbers.{fault_number, refusal_number}
use Rattle.diagnostic_words.specs.Words.{fault_words, refusal_words}
use Rattle.promela_session.specs.declared.ends.Cause.{Cause}
use Rattle.promela_session.specs.declared.form.Version.{Version}
use Rattle.promela_session.specs.declared.form.Version.TheVariants.{First, Second}
use Rattle.promela_session.specs.declared.ends.Cause.TheVariants as cause

-- what a piece of output is for
pub data Purpose : Type 0 where
  -- a list, its prompt, the text of a step, a last piece
  Told : Purpose
  -- the answer to a bad line, or the prompt that follows it
  Corrected : Purpose

-- one thing that a session does
pub data Event : Type 0 where
  -- a piece of output
  Put : Purpose → List ℕ → Event
  -- a byte of the choices is asked for, and this one comes
  Asked : ℕ → Event
  -- a byte is asked for, and the end comes
  AskedEnd : Event
  -- an accepted number, as its line in the record, and as its line with the place of its move
  Recorded : List ℕ → List ℕ → Event
  -- a step has succeeded
  Stepped : Event

-- what one event writes to the output
abbrev pub output_of : Event → List ℕ
output_of (Put purpose piece) = piece
output_of _ = []

-- the byte of the choices that one event reads
abbrev pub bytes_of : Event → List ℕ
bytes_of (Asked b) = b ∷ []
bytes_of _ = []

-- what one event writes to the record
abbrev pub record_of : Event → List ℕ
record_of (Recorded line placed) = line
record_of _ = []

-- the steps that one event counts for
abbrev pub step_of : Event → ℕ
step_of Stepped = 1
step_of _ = 0

-- what a list of events writes to the output
abbrev pub output : List Event → List ℕ
output events = flat_map output_of events

-- the bytes of the choices that it reads
abbrev pub front : List Event → List ℕ
front events = flat_map bytes_of events

-- what it writes to the record
abbrev pub recorded : List Event → List ℕ
recorded events = flat_map record_of events

-- how many steps succeed in it
abbrev pub steps_in : List Event → ℕ
steps_in events = sum_by step_of events

-- these bytes are asked for and come, and then perhaps the end
abbrev pub asks : List ℕ → Bool → List Event
asks bytes ended = map Asked bytes ++ (if ended then AskedEnd ∷ [] else [])

-- a byte of the choices is asked for
abbrev pub is_ask : Event → Bool
is_ask (Asked b) = true
is_ask AskedEnd = true
is_ask _ = false

-- What a part of a session does on the choices: its events, what comes of it, what is known of the choices, the bytes left.
pub record Part (T : Type 0) : Type 0 where
  pub events : List Event
  pub value : T
  pub stream : Stream
  pub left : List ℕ

-- the same with events in front
abbrev pub preceded : {T : Type 0} → List Event → Part T → Part T
preceded events part = record { events = events ++ part.events; value = part.value; stream = part.stream; left = part.left }

-- a part, and then what follows from its outcome
abbrev pub followed : {T U : Type 0} → Part T → (T → Stream → List ℕ → Part U) → Part U
followed part next = preceded part.events (next part.value part.stream part.left)

-- ---- the lines that a session writes

-- the list of a question, its moves counted from k
abbrev pub list_from : {M : Type 0} → (M → List ℕ) → ℕ → List M → List ℕ
list_from text k [] = []
list_from text k (m ∷ ms) = (codes "choice " ++ (decimal k ++ (codes ": " ++ (text m ++ codes "\n")))) ++ list_from text (k + 1) ms

-- `choose 1..K`
abbrev pub prompt : ℕ → List ℕ
prompt most = codes "choose 1.." ++ (decimal most ++ codes "\n")

-- `bad choice`
abbrev pub bad_line : List ℕ
bad_line = codes "bad choice" ++ codes "\n"

-- a number in decimal digits, at most so many
unfoldable pub digits_of : ℕ → ℕ → List ℕ
digits_of zero n = []
digits_of (suc room) n = if nat_lt n 10 then (zero_digit + n) ∷ [] else digits_of room (n / 10) ++ (zero_digit + n % 10) ∷ []

-- all of them, however large the number is
unfoldable pub all_digits : ℕ → List ℕ
all_digits n = digits_of (suc n) n

-- an accepted number in the record
abbrev pub record_line : ℕ → List ℕ
record_line n = all_digits n ++ codes "\n"

-- a number with the process and the line of its move: `K P L`
abbrev pub placed_line : ℕ → ℕ × ℕ → List ℕ
placed_line n place = all_digits n ++ (codes " " ++ (all_digits place.0 ++ (codes " " ++ (all_digits place.1 ++ codes "\n"))))

-- the line of an accepted number, in this version
abbrev pub noted : Version → ℕ → ℕ × ℕ → List ℕ
noted First n place = record_line n
noted Second n place = placed_line n place

-- the first line of choices of the second version, without its line feed
abbrev pub header : List ℕ
header = codes "choices 2"

-- the first line of choices of the second version
abbrev pub header_line : List ℕ
header_line = header ++ codes "\n"

-- how a last line begins, by its cause; the others have none
abbrev pub last_words : Cause → List ℕ
last_words cause.Valid = codes "end: valid, steps "
last_words cause.Quit = codes "end: quit, steps "
last_words cause.Invalid = codes "end: invalid, steps "
last_words cause.ChoicesEnded = codes "stop: choices ended, steps "
last_words cause.LineTooLong = codes "stop: line too long, steps "
last_words cause.BadChoices = codes "stop: 100 bad choices, steps "
last_words cause.Misfit = codes "stop: choice misfit, steps "
last_words cause.StepLimit = codes "stop: step limit, steps "
last_words _ = []

-- the last line of a session that its own course ends
abbrev pub last_line : Cause → ℕ → List ℕ
last_line cause steps = last_words cause ++ (decimal steps ++ codes "\n")

-- `step N: MOVE`
abbrev pub step_line : ℕ → List ℕ → List ℕ
step_line n text = codes "step " ++ (decimal n ++ (codes ": " ++ (text ++ codes "\n")))

-- `fault FK (WORDS): step N: MOVE`
abbrev pub fault_line : Fault → ℕ → List ℕ → List ℕ
fault_line f n text = codes "fault F" ++ (decimal (fault_number f) ++ (codes " (" ++ (fault_words f ++ (codes "): " ++ step_line n text))))

-- `refused MK (WORDS)`
abbrev pub refusal_line : Refusal → List ℕ
refusal_line r = codes "refused M" ++ (decimal (refusal_number r) ++ (codes " (" ++ (refusal_words r ++ codes ")\n")))

-- the exit status of a cause: 6, where a device or memory failed
abbrev pub status_of : Cause → ℕ
status_of cause.Valid = 0
status_of cause.Quit = 0
status_of cause.Invalid = 1
status_of (cause.Fault f) = 2
status_of (cause.Refused r line) = 3
status_of cause.ChoicesEnded = 5
status_of cause.LineTooLong = 5
status_of cause.BadChoices = 5
status_of cause.Misfit = 5
status_of cause.StepLimit = 5
status_of _ = 6
