-- The session of a machine: what it does on these choices, and how it ends.
-- Hold it against docs/FORMATS.md.
use Rattle.std.specs.Prelude.{ℕ, List, Bool, Option, ◌+◌, ◌-◌, [], ◌∷◌, ◌++◌, length, false, if◌then◌else◌, Some, None, slice_index_or, unwrap_or, option_map}
use Rattle.diagnostics.specs.declared.fault.Fault.{Fault}
use Prim.Native.Nat.{zero, suc}
use Rattle.std.specs.List.{slice_get}
use Rattle.profile.specs.declared.TheConstants.{BAD_LINES, LINE_BYTES}
use Rattle.diagnostics.specs.declared.refusal.Refusal.{Refusal}
use Rattle.promela_session.specs.declared.ends.Options.{Options}
use Rattle.promela_session.specs.declared.ends.End.{End}
use Rattle.promela_session.specs.declared.ends.Cause.{Cause}
use Rattle.promela_session.specs.declared.ends.Cause.TheVariants as cause
use Rattle.promela_session.specs.declared.line.LineEnd.{LineEnd}
use Rattle.promela_session.specs.declared.line.LineEnd.TheVariants.{Last, TooLong}
use Rattle.promela_session.specs.declared.choice.Answer.{Answer}
use Rattle.promela_session.specs.declared.choice.Answer.TheVariants as answer
use Rattle.promela_machine.specs.Machine.{Rules, Outcome, Goes, Faults}
use Rattle.promela_session.specs.Events.{Put, Told, Corrected, Recorded, Stepped, asks, Part, preceded, followed, list_from, prompt, bad_line, noted, placed_line, last_line, step_line, fault_line, refusal_line, status_of}
use Rattle.promela_session.specs.Lines.{line_within, read_of, saw_end, reply_in, is_header}
use Rattle.promela_session.specs.declared.form.Stream.{Stream}
use Rattle.promela_session.specs.declared.form.Stream.TheVariants.{Unread, Known, Over}
use Rattle.promela_session.specs.declared.form.Version.{Version}
use Rattle.promela_session.specs.declared.form.Version.TheVariants.{First, Second}

-- what a line of this version says that ends so, or `None` for a bad line
abbrev pub reply_at : Version → ℕ → (ℕ → ℕ × ℕ) → LineEnd → List ℕ → Option Answer
reply_at version most place TooLong bytes = Some answer.TooLong
reply_at version most place Last [] = Some answer.Ended
reply_at version most place _ bytes = reply_in version most place bytes

-- what is known of the choices behind a line of this version that ends so
abbrev pub stream_behind : Version → LineEnd → Stream
stream_behind version Last = Over
stream_behind version _ = Known version

-- One line is read. It has at most 80 bytes, and a line feed.
unfoldable pub one_line : Version → ℕ → (ℕ → ℕ × ℕ) → List ℕ → Part (Option Answer)
one_line version most place rest =
    let line = line_within (LINE_BYTES + 1) rest in
    record {
      events = asks (read_of line.ends line.bytes) (saw_end line.ends);
      value = reply_at version most place line.ends line.bytes;
      stream = stream_behind version line.ends;
      left = line.left;
    }

-- nothing is done, and only this comes of it
abbrev pub only_this : {T : Type 0} → T → Stream → List ℕ → Part T
only_this value stream left = record { events = []; value = value; stream = stream; left = left }

-- The next line, unless the end was seen. Choices of which nothing was read are of the first version.
unfoldable pub next_line : ℕ → (ℕ → ℕ × ℕ) → Stream → List ℕ → Part (Option Answer)
next_line most place Unread rest = one_line First most place rest
next_line most place (Known version) rest = one_line version most place rest
next_line most place Over rest = only_this (Some answer.Ended) Over rest

-- a line that ends so is the first of choices of the second version
abbrev pub begins_second : LineEnd → List ℕ → Bool
begins_second TooLong bytes = false
begins_second _ bytes = is_header bytes

-- What is read for an answer: the next line, and where nothing was read and the first line is `choices 2`, that line and the one behind it.
unfoldable pub one_reply : ℕ → (ℕ → ℕ × ℕ) → Stream → List ℕ → Part (Option Answer)
one_reply most place Unread rest =
    let line = line_within (LINE_BYTES + 1) rest in
    if begins_second line.ends line.bytes
    then preceded (asks (read_of line.ends line.bytes) (saw_end line.ends)) (next_line most place (stream_behind Second line.ends) line.left)
    else next_line most place Unread rest
one_reply most place (Known version) rest = next_line most place (Known version) rest
one_reply most place Over rest = next_line most place Over rest

-- an answer ends a question; a bad line is answered, and then comes what follows it
abbrev pub after_line : (Stream → List ℕ → Part Answer) → Option Answer → Stream → List ℕ → Part Answer
after_line more (Some said) stream left = only_this said stream left
after_line more None stream left = preceded (Put Corrected bad_line ∷ []) (more stream left)

-- The question for one of so many moves, where so many more bad lines are answered by a prompt.
unfoldable pub ask_for_move : ℕ → (ℕ → ℕ × ℕ) → ℕ → Stream → List ℕ → Part Answer
ask_for_move most place zero stream rest = followed (one_reply most place stream rest) (after_line (only_this answer.Hundred))
ask_for_move most place (suc tries) stream rest =
    followed (one_reply most place stream rest) (after_line (λ o left. preceded (Put Corrected (prompt most) ∷ []) (ask_for_move most place tries o left)))

-- an accepted number is recorded, in lines of this version
abbrev pub kept : Version → (ℕ → ℕ × ℕ) → Answer → Stream → List ℕ → Part Answer
kept notes place (answer.Pick n) stream left =
    preceded (Recorded (noted notes n (place n)) (placed_line n (place n)) ∷ []) (only_this (answer.Pick n) stream left)
kept notes place said stream left = only_this said stream left

-- the question for one of so many moves: a hundred bad lines end it, all but the last of them answered by a prompt
abbrev pub question : ℕ → (ℕ → ℕ × ℕ) → Stream → List ℕ → Part Answer
question most place stream rest = ask_for_move most place (BAD_LINES - 1) stream rest

-- the version of the record's lines
module _ (notes : Version) where
  -- the list and the prompt are written and an answer is asked for, and recorded
  abbrev pub choose : {M : Type 0} → (M → List ℕ) → (ℕ → ℕ × ℕ) → List M → Stream → List ℕ → Part Answer
  choose text place moves stream rest =
      let most = length moves in
      preceded (Put Told (list_from text 1 moves) ∷ []) (preceded (Put Told (prompt most) ∷ []) (followed (question most place stream rest) (kept notes place)))

-- the process and the line of the move with this number, counted from 1
abbrev pub place_of_move : {S M : Type 0} → Rules S M → S → List M → ℕ → ℕ × ℕ
place_of_move rules s moves n = unwrap_or (option_map (rules.origin s) (slice_get moves (n - 1))) (0, 0)

module _ {S M : Type 0} (notes : Version) (rules : Rules S M) (s : S) where
  -- one move is taken without asking; of several one is asked for
  unfoldable pub select_move : List M → Stream → List ℕ → Part Answer
  select_move (m ∷ n ∷ ms) stream rest = choose notes (rules.text s) (place_of_move rules s (m ∷ n ∷ ms)) (m ∷ n ∷ ms) stream rest
  select_move moves stream rest = only_this (answer.Pick 1) stream rest

-- how a session ends by this cause
abbrev pub end_of : Cause → ℕ → End
end_of c steps = record { status = status_of c; steps = steps; cause = c }

-- the last line is written
abbrev pub stopped : Cause → ℕ → Stream → List ℕ → Part End
stopped c steps stream left = preceded (Put Told (last_line c steps) ∷ []) (only_this (end_of c steps) stream left)

-- there is no move: the end is a valid one, or it is not, and then what is stuck is told
abbrev pub finished : Bool → List ℕ → ℕ → Stream → List ℕ → Part End
finished valid stuck steps stream left =
    preceded (Put Told (if valid then last_line cause.Valid steps else last_line cause.Invalid steps ++ stuck) ∷ [])
    (only_this (end_of (if valid then cause.Valid else cause.Invalid) steps) stream left)

module _ {S M : Type 0} (rules : Rules S M) (options : Options) (s : S) where
  -- the text of a step: its line, what it printed, the value lines
  abbrev pub step_text : M → ℕ → S → List ℕ → List ℕ
  step_text m n t printed =
      ((if options.steps then step_line n (rules.text s m) else []) ++ printed) ++ rules.values t options.globals options.locals

  -- the move is taken: its text is written after it, a fault's line alone
  unfoldable pub stepped : M → ℕ → (S → Part End) → Stream → List ℕ → Outcome S → Part End
  stepped m steps later stream left (Goes t printed) =
      preceded (Stepped ∷ []) (preceded (Put Told (step_text m (steps + 1) t printed) ∷ []) (later t))
  stepped m steps later stream left (Faults f) =
      preceded (Put Told (fault_line f (steps + 1) (rules.text s m)) ∷ []) (only_this (end_of (cause.Fault f) steps) stream left)

-- the model is refused, at this line of its text
abbrev pub refused : Refusal → ℕ → Stream → List ℕ → Part End
refused r line stream left = preceded (Put Told (refusal_line r) ∷ []) (only_this (end_of (cause.Refused r line) 0) stream left)

module _ {S M : Type 0} (rules : Rules S M) (options : Options) (s : S) (moves : List M) where
  -- what follows an answer: the picked move, or the end
  unfoldable pub answered : M → ℕ → (S → Stream → List ℕ → Part End) → Answer → Stream → List ℕ → Part End
  answered m steps later (answer.Pick n) stream left =
      let taken = slice_index_or moves (n - 1) m in
      stepped rules options s taken steps (λ t. later t stream left) stream left (rules.step s taken)
  answered m steps later answer.Quit stream left = stopped cause.Quit steps stream left
  answered m steps later answer.Ended stream left = stopped cause.ChoicesEnded steps stream left
  answered m steps later answer.TooLong stream left = stopped cause.LineTooLong steps stream left
  answered m steps later answer.Hundred stream left = stopped cause.BadChoices steps stream left
  answered m steps later answer.Misfit stream left = stopped cause.Misfit steps stream left

module _ {S M : Type 0} (rules : Rules S M) (s : S) where
  -- the end where there is no move, and else what is given
  abbrev pub at_moves : ℕ → Stream → List ℕ → (List M → M → Part End) → List M → Part End
  at_moves steps stream rest go [] = finished (rules.is_valid s) (rules.stuck s) steps stream rest
  at_moves steps stream rest go (m ∷ ms) = go (m ∷ ms) m

module _ {S M : Type 0} (notes : Version) (rules : Rules S M) (options : Options) where
  -- The session from a state on: after so many steps, with so many to go until the limit, on these choices.
  unfoldable pub story : ℕ → S → ℕ → Stream → List ℕ → Part End
  story zero s steps stream rest =
      at_moves rules s steps stream rest (λ moves m. stopped cause.StepLimit steps stream rest) (rules.moves s)
  story (suc fuel) s steps stream rest =
      at_moves rules s steps stream rest
      (λ moves m. followed (select_move notes rules s moves stream rest) (answered rules options s moves m steps (λ t o r. story fuel t (steps + 1) o r)))
      (rules.moves s)

  -- the whole session on these choices, the end behind them, with a record in lines of this version
  abbrev pub transcript_noting : S → List ℕ → Part End
  transcript_noting s choices = story options.limit s 0 Unread choices

-- the whole session on these choices, the end behind them
abbrev pub transcript : {S M : Type 0} → Rules S M → Options → S → List ℕ → Part End
transcript rules options s choices = transcript_noting First rules options s choices
