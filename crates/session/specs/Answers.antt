-- What a question reads and is answered, of a machine's present moves.
use Rattle.std.specs.Prelude.{ℕ, List, length, Option, ⊤, ◌<◌, ◌≤◌}
use Rattle.promela_session.specs.declared.ends.Cause.{Cause}
use Rattle.promela_session.specs.declared.ends.Cause.TheVariants as cause
use Rattle.promela_session.specs.declared.choice.Answer.{Answer}
use Rattle.promela_session.specs.declared.choice.Answer.TheVariants as answer
use Rattle.promela_session.specs.Events.{Part}
use Rattle.promela_machine.specs.Machine.{Rules}
use Rattle.promela_session.specs.Session.{one_line, next_line, one_reply, question, place_of_move}
use Rattle.promela_session.specs.declared.form.Stream.{Stream}
use Rattle.promela_session.specs.declared.form.Version.{Version}

-- what a question for one of these moves of a state reads: a line of this version
abbrev pub line_at : {S M : Type 0} → Version → Rules S M → S → List M → List ℕ → Part (Option Answer)
line_at version rules s moves = one_line version (length moves) (place_of_move rules s moves)

-- the next line
abbrev pub next_at : {S M : Type 0} → Rules S M → S → List M → Stream → List ℕ → Part (Option Answer)
next_at rules s moves stream = next_line (length moves) (place_of_move rules s moves) stream

-- what is read for an answer
abbrev pub reply_to : {S M : Type 0} → Rules S M → S → List M → Stream → List ℕ → Part (Option Answer)
reply_to rules s moves stream = one_reply (length moves) (place_of_move rules s moves) stream

-- the whole question, behind its prompt
abbrev pub question_at : {S M : Type 0} → Rules S M → S → List M → Stream → List ℕ → Part Answer
question_at rules s moves stream = question (length moves) (place_of_move rules s moves) stream

-- why a session ends at an answer that picks no move
abbrev pub cause_of : Answer → Cause
cause_of (answer.Pick n) = cause.StepLimit
cause_of answer.Quit = cause.Quit
cause_of answer.Ended = cause.ChoicesEnded
cause_of answer.TooLong = cause.LineTooLong
cause_of answer.Hundred = cause.BadChoices
cause_of answer.Misfit = cause.Misfit

-- a picked number is one of so many
abbrev pub IsPickUpTo : ℕ → Answer → Type 0
IsPickUpTo most (answer.Pick n) = (0 < n) × (n ≤ most)
IsPickUpTo most answer.Quit = ⊤
IsPickUpTo most answer.Ended = ⊤
IsPickUpTo most answer.TooLong = ⊤
IsPickUpTo most answer.Hundred = ⊤
IsPickUpTo most answer.Misfit = ⊤
