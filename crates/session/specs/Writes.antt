-- What calls do that write, that record, that take a step, and that play a turn.
use Rattle.std.specs.Prelude.{◌≡◌, ◌≢◌, ℕ, ◌+◌, ◌-◌, ◌<◌, List, [], Option, Some, None, Result, MatchResult, ◌++◌}
use Rattle.devices.specs.Holdings.{Holdings, Moved, FailureCounts}
use Rattle.devices.specs.Doing.{WritesPart, RecordsPart}
use Rattle.diagnostics.specs.declared.fault.Fault.{Fault}
use Rattle.promela_session.specs.declared.ends.Options.{Options}
use Rattle.session.specs.declared.course.Course.{Course}
use Rattle.session.specs.declared.course.Terms.{Terms}
use Rattle.promela_session.specs.declared.ends.End.{End}
use Rattle.promela_session.specs.declared.ends.Broken.{Broken}
use Rattle.promela_session.specs.declared.ends.Broken.TheVariants as broken
use Rattle.promela_session.specs.declared.choice.Answer.{Answer}
use Rattle.promela_session.specs.declared.choice.Answer.TheVariants as answer
use Rattle.promela_session.specs.Events.{Event, front, Part, followed, preceded, noted, fault_line}
use Rattle.promela_machine.specs.Machine.{Rules, Goes, Faults}
use Rattle.promela_session.specs.Session.{stepped, step_text, select_move, answered, story, end_of}
use Rattle.promela_session.specs.Devices.{Ends, IsBrokenOff, MovedBy, Begins, Does, Breaks, CountsBroken}
use Rattle.promela_session.specs.declared.form.Stream.{Stream}
use Rattle.promela_session.specs.declared.form.Version.{Version}

-- the whole part was begun, and the rest is still to do
pub record Leads {T : Type 0} (before after : Holdings) (steps steps' : ℕ) (part rest : List ℕ → Part T) : Type 0 where
  pub done : List Event
  pub moved : MovedBy before after steps steps' done
  pub is : (left : List ℕ) → after.source left → part (front done ++ left) ≡ preceded done (rest left)

-- the part was done whole, with the outcome that the call answers, or it was broken off
abbrev pub Plays : {T : Type 0} → Result T Broken → Holdings → Holdings → ℕ → ℕ → (List ℕ → Part T) → Stream → Type 0
Plays r before after steps steps' part stream =
    MatchResult r (λ value. Does before after steps steps' part value stream) (λ e. Breaks before after steps steps' e part)

-- the same of a part in which no step is taken
abbrev pub PlaysQuestion : {T : Type 0} → Result T Broken → Holdings → Holdings → (List ℕ → Part T) → Stream → Type 0
PlaysQuestion r before after part stream = (steps : ℕ) → Plays r before after steps steps part stream

-- no count has risen where the call succeeds, and else that of the device that broke
abbrev pub CountsAll : {T : Type 0} → Result T Broken → FailureCounts → FailureCounts → Type 0
CountsAll r before after = MatchResult r (λ _. after ≡ before) (λ e. CountsBroken e before after)

-- ---- pieces

-- a piece of output was broken off: for want of memory nothing of it was written, where the output failed a part of it
abbrev pub WriteBreaks : Broken → Holdings → Holdings → List ℕ → Type 0
WriteBreaks broken.Memory before after piece = Moved before after [] [] []
WriteBreaks broken.Source before after piece = ⊥
WriteBreaks broken.Out before after piece = WritesPart before after piece
WriteBreaks broken.Record before after piece = ⊥

-- the piece was written, or broken off
abbrev pub Writes : {T : Type 0} → Result T Broken → Holdings → Holdings → List ℕ → Type 0
Writes r before after piece = MatchResult r (λ _. Moved before after [] piece []) (λ e. WriteBreaks e before after piece)

-- what an answer writes to the record
abbrev pub kept_text : Version → (ℕ → ℕ × ℕ) → Answer → List ℕ
kept_text notes place (answer.Pick n) = noted notes n (place n)
kept_text notes place answer.Quit = []
kept_text notes place answer.Ended = []
kept_text notes place answer.TooLong = []
kept_text notes place answer.Hundred = []
kept_text notes place answer.Misfit = []

-- a line of the record was broken off, in the same way
abbrev pub RecordBreaks : Broken → Holdings → Holdings → List ℕ → Type 0
RecordBreaks broken.Memory before after line = Moved before after [] [] []
RecordBreaks broken.Source before after line = ⊥
RecordBreaks broken.Out before after line = ⊥
RecordBreaks broken.Record before after line = RecordsPart before after line

-- a line of the record was written, or broken off
abbrev pub RecordsAnswer : {T : Type 0} → Result T Broken → Holdings → Holdings → List ℕ → Type 0
RecordsAnswer r before after line = MatchResult r (λ _. Moved before after [] [] line) (λ e. RecordBreaks e before after line)

-- ---- steps

-- the step is taken, and its text is appended
abbrev pub AddsStep : {S M : Type 0} → Rules S M → Options → S → M → ℕ → S → (before after : List ℕ) → Type 0
AddsStep rules options s m n t before after = (printed : List ℕ) × (rules.step s m ≡ Goes t printed) × (after ≡ before ++ step_text rules options s m n t printed)

-- this is the text of a step that succeeds, or the line of its fault
abbrev pub Composes : {S M : Type 0} → Rules S M → Options → S → M → ℕ → S → List ℕ → Option Fault → Type 0
Composes rules options s m steps t text None = (printed : List ℕ) × (rules.step s m ≡ Goes t printed) × (text ≡ step_text rules options s m (steps + 1) t printed)
Composes rules options s m steps t text (Some f) = (rules.step s m ≡ Faults f) × (text ≡ fault_line f (steps + 1) (rules.text s m))

-- a step succeeded and its text was written, or it was a fault and its line was written
abbrev pub StepsTo : {S M : Type 0} → Rules S M → Options → S → M → ℕ → S → ℕ → Holdings → Holdings → Option Fault → Type 0
StepsTo rules options s m steps t steps' before after None = (printed : List ℕ) × (rules.step s m ≡ Goes t printed)
    × Moved before after [] (step_text rules options s m (steps + 1) t printed) [] × (steps' ≡ steps + 1)
StepsTo rules options s m steps t steps' before after (Some f) = (rules.step s m ≡ Faults f)
    × Moved before after [] (fault_line f (steps + 1) (rules.text s m)) [] × (steps' ≡ steps)

-- a step was broken off
pub record StepBreaks {S M : Type 0} (broken : Broken) (rules : Rules S M) (options : Options) (s : S) (m : M) (steps steps' : ℕ)
    (before after : Holdings) : Type 0 where
  pub done : List Event
  pub no_byte : front done ≡ []
  pub moved : MovedBy before after steps steps' done
  pub begins : (later : S → Part End) (stream : Stream) (left : List ℕ)
      → Begins broken done (stepped rules options s m steps later stream left (rules.step s m)).events

-- a step was taken, or was a fault, or was broken off
abbrev pub Steps : {S M : Type 0} → Result (Option Fault) Broken → Rules S M → Options → S → M → ℕ → S → ℕ → Holdings → Holdings → Type 0
Steps r rules options s m steps t steps' before after =
    MatchResult r (StepsTo rules options s m steps t steps' before after) (λ e. StepBreaks e rules options s m steps steps' before after)

-- ---- turns

-- this rest is to do, or the session ended
abbrev pub GoesOn : Holdings → Holdings → ℕ → ℕ → (part rest : List ℕ → Part End) → Stream → Option End → Type 0
GoesOn before after steps steps' part rest stream None = Leads before after steps steps' part rest
GoesOn before after steps steps' part rest stream (Some end) = Does before after steps steps' part end stream

-- this rest is to do, or the session ended, or it was broken off
abbrev pub Continues : Result (Option End) Broken → Holdings → Holdings → ℕ → ℕ → (part rest : List ℕ → Part End) → Stream → Type 0
Continues r before after steps steps' part rest stream =
    MatchResult r (GoesOn before after steps steps' part rest stream) (λ e. Breaks before after steps steps' e part)

-- a move is selected, and what follows the answer is done
abbrev pub acted : {S M : Type 0} → Version → Rules S M → Options → S → M → ℕ → (S → Stream → List ℕ → Part End) → Stream → List ℕ → Part End
acted notes rules options s first steps later stream rest =
    followed (select_move notes rules s (rules.moves s) stream rest) (answered rules options s (rules.moves s) first steps later)

-- a move was selected and taken, or the session ended, or it was broken off: whatever follows the step
abbrev pub Acts : {S M : Type 0} → Result (Option End) Broken → Terms → Rules S M → S → S → Holdings → Holdings → ℕ → ℕ → Course → Course → Type 0
Acts {S} {M} r terms rules s t before after steps steps' course course' = (later : S → Stream → List ℕ → Part End) (first : M)
    → Continues r before after steps steps' (acted terms.notes rules terms.options s first steps later course.stream) (later t course'.stream) course'.stream

-- what is still to do of a session after so many steps
abbrev pub story_after : {S M : Type 0} → Version → Rules S M → Options → S → ℕ → Stream → List ℕ → Part End
story_after notes rules options s steps stream = story notes rules options (options.limit - steps) s steps stream

-- a turn of the session was played
abbrev pub Turns : {S M : Type 0} → Result (Option End) Broken → Terms → Rules S M → S → S → Holdings → Holdings → ℕ → ℕ → Course → Course → Type 0
Turns r terms rules s t before after steps steps' course course' =
    Continues r before after steps steps' (story_after terms.notes rules terms.options s steps course.stream) (story_after terms.notes rules terms.options t steps' course'.stream) course'.stream

-- it came to its end, or was broken off
abbrev pub Runs : Result End Broken → Holdings → Holdings → ℕ → (List ℕ → Part End) → Type 0
Runs r before after steps part = MatchResult r (Ends before after steps part) (λ e. Breaks before after 0 steps e part)

-- an end that no device and no want of memory brought about, after so many steps
pub record IsOwnEnd (steps : ℕ) (end : End) : Type 0 where
  pub own : end.status < 6
  pub counted : end.steps ≡ steps
  pub told : end ≡ end_of end.cause end.steps

-- where the status is not 6 this part came to this end
abbrev pub EndsOwn : Holdings → Holdings → (List ℕ → Part End) → End → Type 0
EndsOwn before after part end = end.status ≢ 6 → Ends before after end.steps part end

-- where it is 6 the part was broken off
abbrev pub EndsBroken : Holdings → Holdings → (List ℕ → Part End) → End → Type 0
EndsBroken before after part end = end.status ≡ 6 → IsBrokenOff before after part end
