-- What is run, with the move at which it fails, and what is recorded of it.
use Rattle.std.specs.Prelude.{◌≡◌, ℕ, Bool, true, false, List, [], Option, Some, None}
use Rattle.diagnostics.specs.declared.fault.Fault.{Fault}
use Rattle.promela_session.specs.declared.ends.End.{End}
use Rattle.promela_session.specs.declared.ends.Cause.{Cause}
use Rattle.promela_session.specs.declared.ends.Cause.TheVariants as cause
use Rattle.promela_session.specs.declared.ends.Options.{Options}
use Rattle.promela_session.specs.Events.{recorded, Part}
use Rattle.promela_machine.specs.Machine.{Rules, Faults}
use Rattle.promela_run.specs.World.{Running, rules as rules_of_models}
use Rattle.pml_play.specs.Plain.{SayTheSame}
use Rattle.pml_play.specs.Run.{Leg, IsChosen, IsRun, HasRun, IsSessionOver, last_state}

-- whether a run has failed: its last step was a fault
abbrev pub has_failed : Cause → Bool
has_failed (cause.Fault f) = true
has_failed cause.Valid = false
has_failed cause.Invalid = false
has_failed (cause.Refused r line) = false
has_failed cause.StepLimit = false
has_failed cause.Quit = false
has_failed cause.ChoicesEnded = false
has_failed cause.LineTooLong = false
has_failed cause.BadChoices = false
has_failed cause.Misfit = false
has_failed cause.SourceFailed = false
has_failed cause.OutFailed = false
has_failed cause.RecordFailed = false
has_failed cause.Memory = false

-- The move at which a run fails in a state, chosen by the last numbers; where it does not fail there are no more numbers.
abbrev pub FailsAt : {S M : Type 0} → Rules S M → S → Option M → List ℕ → Cause → Type 0
FailsAt rules s None last why = (last ≡ []) × (has_failed why ≡ false)
FailsAt rules s (Some m) last why = IsChosen (rules.moves s) last m × ((f : Fault) × (rules.step s m ≡ Faults f) × (why ≡ cause.Fault f))

-- The session runs through this path from its first state, and fails at this move behind it, or at none.
pub record IsWholeRun {S M : Type 0} (rules : Rules S M) (limit : ℕ) (s : S) (path : List (Leg S M)) (failed : Option M) (part : Part End) : Type 0 where
  pub run : IsRun rules limit s path part
  pub fails : FailsAt rules (last_state s path) failed run.last part.value.cause

-- it runs so, and in no other way
pub record HasOneRun {S M : Type 0} (rules : Rules S M) (limit : ℕ) (s : S) (part : Part End) : Type 0 where
  pub path : List (Leg S M)
  pub failed : Option M
  pub whole : IsWholeRun rules limit s path failed part
  pub only : (again : List (Leg S M)) (other : Option M) → IsWholeRun rules limit s again other part → (again ≡ path) × (other ≡ failed)

-- whatever the choices are, the session on them has one run
abbrev pub EachHasOneRun : {S M : Type 0} → Rules S M → ℕ → S → (List ℕ → Part End) → Type 0
EachHasOneRun rules limit s session = (choices : List ℕ) → HasOneRun rules limit s (session choices)

-- two sessions from one state, by these limits, run through one path, and fail at one move if they fail
abbrev pub RunTheSame : {S M : Type 0} → Rules S M → S → ℕ → Part End → ℕ → Part End → Type 0
RunTheSame {S} {M} rules s limit a other b =
    (path : List (Leg S M)) × (failed : Option M) × IsWholeRun rules limit s path failed a × IsWholeRun rules other s path failed b

-- the same is recorded of two sessions, in as many steps, and both fail or neither does
pub record RecordTheSame (a b : Part End) : Type 0 where
  pub record_is : recorded a.events ≡ recorded b.events
  pub steps : a.value.steps ≡ b.value.steps
  pub fail : has_failed a.value.cause ≡ has_failed b.value.cause

-- sessions that run from one state run the same exactly where the same is recorded of them
abbrev pub RunsAndRecordsAreOneToOne : {S M : Type 0} → Rules S M → Type 0
RunsAndRecordsAreOneToOne {S} rules = (s : S) (limit other : ℕ) (a b : Part End) → HasRun rules limit s a → HasRun rules other s b
    → SayTheSame (RunTheSame rules s limit a other b) (RecordTheSame a b)

-- so do two sessions over a text that stands for a model, whatever their choices are
abbrev pub SessionsAreTold : Type 0
SessionsAreTold = (text : List ℕ) (options others : Options) (model : Running) (session again : List ℕ → Part End) → IsSessionOver text options model session
    → IsSessionOver text others model again → (choices more : List ℕ)
    → SayTheSame (RunTheSame rules_of_models model options.limit (session choices) others.limit (again more)) (RecordTheSame (session choices) (again more))
