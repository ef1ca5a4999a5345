-- What a run of a session is: a path through the states of its machine, and why it ends.
use Rattle.std.specs.Prelude.{◌≡◌, ◌≢◌, ◌<◌, ◌≤◌, ℕ, ◌+◌, List, [], ◌∷◌, ◌++◌, length, slice_get, Some, true}
use Rattle.std.specs.List.{Contains, flat_map}
use Rattle.diagnostics.specs.declared.fault.Fault.{Fault}
use Rattle.promela_session.specs.declared.ends.End.{End}
use Rattle.promela_session.specs.declared.ends.Cause.{Cause}
use Rattle.promela_session.specs.declared.ends.Cause.TheVariants as cause
use Rattle.promela_session.specs.Events.{recorded, Part, record_line}
use Rattle.promela_machine.specs.Machine.{Rules, Goes, Faults}
use Rattle.session.specs.Ending.{final_cause}
use Rattle.promela_session.specs.Devices.{is_cut_short}
use Rattle.promela_session.specs.declared.ends.Options.{Options}
use Rattle.promela_run.specs.World.{Running}
use Rattle.pml_play.specs.Transcript.{IsModel, IsTranscript}

-- one step of a run: the move that is taken, and the state that it leads to
pub record Leg (S M : Type 0) : Type 0 where
  pub move : M
  pub next : S

-- the only move, and no number is recorded; or of several moves the one whose number, counted from 1, is recorded
abbrev pub IsChosen : {M : Type 0} → List M → List ℕ → M → Type 0
IsChosen [] numbers m = ⊥
IsChosen (a ∷ []) numbers m = (numbers ≡ []) × (m ≡ a)
IsChosen (a ∷ b ∷ more) numbers m = (k : ℕ) × (numbers ≡ (k + 1) ∷ []) × (slice_get (a ∷ b ∷ more) k ≡ Some m)

-- The move is one of the state's moves, chosen so, and leads to the next state.
pub record IsStep {S M : Type 0} (rules : Rules S M) (s : S) (numbers : List ℕ) (leg : Leg S M) : Type 0 where
  pub there : Contains (rules.moves s) leg.move
  pub chosen : IsChosen (rules.moves s) numbers leg.move
  pub printed : List ℕ
  pub goes : rules.step s leg.move ≡ Goes leg.next printed

-- Each step begins in the state that the one before it leads to, the first in this one, and these numbers are recorded, one behind another.
abbrev pub IsPath : {S M : Type 0} → Rules S M → S → List (Leg S M) → List ℕ → Type 0
IsPath rules s [] numbers = numbers ≡ []
IsPath rules s (leg ∷ legs) numbers =
    (first rest : List ℕ) × (numbers ≡ first ++ rest) × IsStep rules s first leg × IsPath rules leg.next legs rest

-- the state that a path leads to
abbrev pub last_state : {S M : Type 0} → S → List (Leg S M) → S
last_state s [] = s
last_state s (leg ∷ legs) = last_state leg.next legs

-- Why a run ends in a state after so many steps: nothing more is recorded, or the number of the move whose step is a fault.
pub data IsLast {S M : Type 0} (rules : Rules S M) (limit : ℕ) (s : S) (steps : ℕ) : List ℕ → Cause → Type 0 where
  -- the state has no move
  no_move : steps ≤ limit → rules.moves s ≡ [] → IsLast rules limit s steps [] (final_cause (rules.is_valid s))
  -- it has moves, and the limit is reached
  at_limit : steps ≡ limit → rules.moves s ≢ [] → IsLast rules limit s steps [] cause.StepLimit
  -- the step of the move is a fault
  at_fault : {m : M} {f : Fault} {numbers : List ℕ} → steps < limit → IsChosen (rules.moves s) numbers m → rules.step s m ≡ Faults f
      → IsLast rules limit s steps numbers (cause.Fault f)
  -- of several moves one is asked for, and the choices pick none: `q`, their end, a line too long, 100 bad lines or a misfit
  at_question : {why : Cause} → steps < limit → 1 < length (rules.moves s) → is_cut_short why ≡ true → IsLast rules limit s steps [] why

-- The session runs through this path from its first state: as many steps, its numbers are the record, and it ends as the session does.
pub record IsRun {S M : Type 0} (rules : Rules S M) (limit : ℕ) (s : S) (path : List (Leg S M)) (part : Part End) : Type 0 where
  pub numbers : List ℕ
  pub last : List ℕ
  pub is_path : IsPath rules s path numbers
  pub counted : part.value.steps ≡ length path
  pub kept : recorded part.events ≡ flat_map record_line (numbers ++ last)
  pub ends : IsLast rules limit (last_state s path) (length path) last part.value.cause

-- the session runs through a path
abbrev pub HasRun : {S M : Type 0} → Rules S M → ℕ → S → Part End → Type 0
HasRun {S} {M} rules limit s part = (path : List (Leg S M)) × IsRun rules limit s path part

-- sessions from this state with the same record, and with as many steps, run through the same path
abbrev pub RecordGivesRun : {S M : Type 0} → Rules S M → S → Type 0
RecordGivesRun {S} {M} rules s = (limit other : ℕ) (path again : List (Leg S M)) (a b : Part End) → IsRun rules limit s path a → IsRun rules other s again b
    → recorded a.events ≡ recorded b.events → a.value.steps ≡ b.value.steps → path ≡ again

-- The session on the record of each path that is no longer than the limit, with whatever behind it, runs through that path first.
abbrev pub PlaysEachPath : {S M : Type 0} → Rules S M → ℕ → S → (List ℕ → Part End) → Type 0
PlaysEachPath {S} {M} rules limit s session = (path : List (Leg S M)) (numbers more : List ℕ) → IsPath rules s path numbers → length path ≤ limit
    → (later : List (Leg S M)) × IsRun rules limit s (path ++ later) (session (flat_map record_line numbers ++ more))

-- Where the limit is as many steps as a path has, its record gives the run through it and no further.
abbrev pub PlaysJustThePath : {S M : Type 0} → Rules S M → ℕ → S → (List ℕ → Part End) → Type 0
PlaysJustThePath {S} {M} rules limit s session = (path : List (Leg S M)) (numbers more : List ℕ) → IsPath rules s path numbers → length path ≡ limit
    → IsRun rules limit s path (session (flat_map record_line numbers ++ more))

-- the text stands for this model, and this is the session over it
abbrev pub IsSessionOver : List ℕ → Options → Running → (List ℕ → Part End) → Type 0
IsSessionOver text options model session = IsModel text options.lossy model × IsTranscript text options session

-- this holds of each session over a text that stands for a model, by its options and the model
abbrev pub OfEachSession : (Options → Running → (List ℕ → Part End) → Type 0) → Type 0
OfEachSession says = (text : List ℕ) (options : Options) (model : Running) (session : List ℕ → Part End)
    → IsSessionOver text options model session → says options model session

-- whatever the choices are, the session on them runs through a path
abbrev pub RunsThroughPaths : {S M : Type 0} → Rules S M → ℕ → S → (List ℕ → Part End) → Type 0
RunsThroughPaths rules limit s session = (choices : List ℕ) → HasRun rules limit s (session choices)
