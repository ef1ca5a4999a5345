-- The texts of steps that are done and still to be written.
use Rattle.std.specs.Prelude.{◌≡◌, ◌⊎◌, ℕ, ◌+◌, ◌-◌, ◌<◌, Bool, false, ◌||◌, List, [], ◌∷◌, ◌++◌, length, take, drop, nat_le, nat_lt, Option, Some, None, Result, MatchResult}
use Rattle.std.specs.List.{count_by}
use Rattle.devices.specs.Holdings.{Holdings, Moved}
use Rattle.promela_session.specs.declared.ends.End.{End}
use Rattle.promela_session.specs.declared.ends.Broken.{Broken}
use Rattle.promela_session.specs.declared.ends.Broken.TheVariants as broken
use Rattle.diagnostics.specs.declared.fault.Fault.{Fault}
use Rattle.promela_session.specs.declared.ends.Options.{Options}
use Rattle.promela_session.specs.Events.{Event, Put, Told, Stepped, output, Part, preceded, fault_line}
use Rattle.promela_machine.specs.Machine.{Rules, Goes, Faults}
use Rattle.promela_session.specs.Session.{stepped, step_text}
use Rattle.promela_session.specs.Devices.{Does, Breaks}
use Rattle.session.specs.Writes.{Leads, story_after}
use Rattle.session.specs.declared.course.Terms.{Terms}
use Rattle.session.specs.declared.course.Course.{Course}
use Rattle.promela_session.specs.declared.form.Stream.{Stream}
use Rattle.session.specs.declared.gathered.TheConstants.{ENOUGH_BYTES, ENOUGH_TEXTS}

-- what a session does in steps with these texts
abbrev pub told_steps : List (List ℕ) → List Event
told_steps [] = []
told_steps (text ∷ texts) = Stepped ∷ Put Told text ∷ told_steps texts

-- where each of the texts begins, one behind another
abbrev pub begins_from : ℕ → List (List ℕ) → List ℕ
begins_from at [] = []
begins_from at (text ∷ texts) = at ∷ begins_from (at + length text) texts

-- so many bytes, or so many texts, are enough to be written at once
abbrev pub are_enough : (bytes begins : List ℕ) → Bool
are_enough bytes begins = nat_le ENOUGH_BYTES (length bytes) || nat_le ENOUGH_TEXTS (length begins)

-- no more wait than are kept back while nothing is asked
abbrev pub AreFew : Course → Type 0
AreFew course = are_enough course.gathered.bytes.items course.gathered.begins.items ≡ false

-- how many begin behind the first bytes
abbrev pub later : ℕ → List ℕ → ℕ
later taken begins = count_by (nat_lt taken) begins

-- a text is added, or it is empty, and so is all
abbrev pub AddsText : (bytes begins text bytes' begins' : List ℕ) → Type 0
AddsText bytes begins text bytes' begins' =
    ((bytes' ≡ bytes ++ text) × (begins' ≡ begins ++ length bytes ∷ []))
    ⊎ ((text ≡ []) × (begins ≡ []) × (bytes' ≡ bytes) × (begins' ≡ []))

-- what stands behind the first bytes is the text that is added
abbrev pub EndsText : ℕ → (bytes begins bytes' begins' : List ℕ) → Type 0
EndsText n bytes begins bytes' begins' = AddsText (take n bytes) begins (drop n bytes) bytes' begins'

-- a step is taken and its text added, or the line of its fault is composed and no text is added
abbrev pub Gathers : {S M : Type 0} → Rules S M → Options → S → M → ℕ → S → (course course' : Course) → Option Fault → Type 0
Gathers rules options s m steps t course course' None = (printed : List ℕ) × (rules.step s m ≡ Goes t printed)
    × AddsText course.gathered.bytes.items course.gathered.begins.items (step_text rules options s m (steps + 1) t printed) course'.gathered.bytes.items course'.gathered.begins.items
Gathers rules options s m steps t course course' (Some f) = (rules.step s m ≡ Faults f) × (course'.draft.piece.items ≡ fault_line f (steps + 1) (rules.text s m))
    × (course'.gathered.bytes.items ≡ course.gathered.bytes.items) × (course'.gathered.begins.items ≡ course.gathered.begins.items)

-- the first of the bytes were written, and the steps that begin behind them are not counted
abbrev pub CutsTexts : Holdings → Holdings → (bytes begins : List ℕ) → ℕ → ℕ → Type 0
CutsTexts before after bytes begins steps steps' = (n : ℕ) × (n < length bytes) × Moved before after [] (take n bytes) [] × (steps' ≡ steps - later n begins)

-- these are the texts that are gathered
pub record AreGathered (texts : List (List ℕ)) (bytes begins : List ℕ) : Type 0 where
  pub bytes_are : bytes ≡ output (told_steps texts)
  pub begins_are : begins ≡ begins_from 0 texts

-- these texts are written, and then comes the rest
abbrev pub behind : List (List ℕ) → (List ℕ → Part End) → List ℕ → Part End
behind texts rest left = preceded (told_steps texts) (rest left)

-- the whole part was begun, and the rest is still to do, behind the texts that are gathered
pub record Waits (before after : Holdings) (steps steps' : ℕ) (whole rest : List ℕ → Part End) (bytes begins : List ℕ) : Type 0 where
  pub texts : List (List ℕ)
  pub written : ℕ
  pub leads : Leads before after steps written whole (behind texts rest)
  pub count : steps' ≡ written + length texts
  pub are : AreGathered texts bytes begins

-- a device broke the part off, and nothing is gathered
abbrev pub BreaksBare : Broken → Holdings → Holdings → ℕ → ℕ → (List ℕ → Part End) → List ℕ → Type 0
BreaksBare broken before after steps steps' whole bytes = Breaks before after steps steps' broken whole × (bytes ≡ [])

-- The part was broken off: for want of memory, behind texts that are gathered.
abbrev pub Halts : Broken → Holdings → Holdings → ℕ → ℕ → (List ℕ → Part End) → (bytes begins : List ℕ) → Type 0
Halts broken.Memory before after steps steps' whole bytes begins = (rest : List ℕ → Part End) × Waits before after steps steps' whole rest bytes begins
Halts broken.Source before after steps steps' whole bytes begins = BreaksBare broken.Source before after steps steps' whole bytes
Halts broken.Out before after steps steps' whole bytes begins = BreaksBare broken.Out before after steps steps' whole bytes
Halts broken.Record before after steps steps' whole bytes begins = BreaksBare broken.Record before after steps steps' whole bytes

-- this rest is to do, behind the texts that are gathered, or the session ended
abbrev pub WaitsOn : Holdings → Holdings → ℕ → ℕ → (whole rest : List ℕ → Part End) → Stream → (bytes begins : List ℕ) → Option End → Type 0
WaitsOn before after steps steps' whole rest stream bytes begins None = Waits before after steps steps' whole rest bytes begins
WaitsOn before after steps steps' whole rest stream bytes begins (Some end) = Does before after steps steps' whole end stream

-- the same, or the part was broken off
abbrev pub GoesFurther : Result (Option End) Broken → Holdings → Holdings → ℕ → ℕ → (whole rest : List ℕ → Part End) → Stream → (bytes begins : List ℕ) → Type 0
GoesFurther r before after steps steps' whole rest stream bytes begins =
    MatchResult r (WaitsOn before after steps steps' whole rest stream bytes begins) (λ e. Halts e before after steps steps' whole bytes begins)

-- a step was taken, or the session ended, or it was broken off: whatever texts are gathered before, and whatever follows the step
abbrev pub Advances : {S M : Type 0} → Result (Option End) Broken → Terms → Rules S M → S → M → S → Holdings → Holdings → ℕ → ℕ → (course course' : Course) → Type 0
Advances {S} {M} r terms rules s m t before after steps steps' course course' =
    (texts : List (List ℕ)) (written : ℕ) (later : S → Stream → List ℕ → Part End) (stream : Stream) → AreGathered texts course.gathered.bytes.items course.gathered.begins.items → steps ≡ written + length texts
    → GoesFurther r before after written steps' (behind texts (λ left. stepped rules terms.options s m steps (λ q. later q stream left) stream left (rules.step s m))) (later t stream) stream
    course'.gathered.bytes.items course'.gathered.begins.items

-- a turn of the session was played, whatever texts are gathered before
abbrev pub TurnsOn : {S M : Type 0} → Result (Option End) Broken → Terms → Rules S M → S → S → Holdings → Holdings → ℕ → ℕ → (course course' : Course) → Type 0
TurnsOn r terms rules s t before after steps steps' course course' =
    (texts : List (List ℕ)) (written : ℕ) → AreGathered texts course.gathered.bytes.items course.gathered.begins.items → steps ≡ written + length texts
    → GoesFurther r before after written steps' (behind texts (story_after terms.notes rules terms.options s steps course.stream)) (story_after terms.notes rules terms.options t steps' course'.stream)
    course'.stream course'.gathered.bytes.items course'.gathered.begins.items
