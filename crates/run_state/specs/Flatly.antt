-- What flat code finds in a state, and what it leaves.
use Rattle.std.specs.Prelude.{◌≡◌, ℕ, ℤ, pos, Bool, Option, Some, None, Result, Ok, slice_get}
use Rattle.diagnostics.specs.declared.fault.Fault.{Fault}
use Rattle.diagnostics.specs.declared.stop.Stop.{Stop}
use Rattle.pml_tree.specs.declared.tree.Scalar.{Scalar}
use Rattle.pml_program.specs.declared.form.Form.TheVariants.{Plain as Kept}
use Rattle.promela_process.specs.declared.place.Place.{Place}
use Rattle.promela_process.specs.Numbers.{clipped}
use Rattle.pml_store.specs.Writing.{HasPlace, index_of, joined}
use Rattle.pml_program.specs.declared.program.Action.{Action}
use Rattle.pml_program.specs.declared.program.Basic.{Plain}
use Rattle.promela_run.specs.Moves.{can, or_fault}
use Rattle.promela_run.specs.State.{Stand, State, reads, variables_at}
use Rattle.promela_run.specs.Statements.{outcome}
use Rattle.promela_run.specs.Steps.{put, put_by}
use Rattle.flat_code.specs.declared.wide.FlatStore.{FlatStore}
use Rattle.flat_code.specs.declared.wide.WideCode.{WideCode}
use Rattle.flat_code.specs.Flat.{Fits, base_of}
use Rattle.flat_code.specs.Wide.{wide_ready, wide_store, AreCellsIn}
use Rattle.run_state.specs.Coded.{IsNumbered}
use Rattle.run_state.specs.Live.{Leads}

-- the place at an index has a number
abbrev pub PutsNumber : State → ℕ → ℤ → Result (Unit {0}) Stop → State → Type 0
PutsNumber s at n result new = (p : Place) → HasPlace s.frames p → index_of s.frames p ≡ at → Leads (Ok (put s (record { place = p; number = n }))) result new

-- or what a word keeps of it
abbrev pub PutsAt : State → ℕ → Scalar → ℤ → Result (Unit {0}) Stop → State → Type 0
PutsAt s at word n result new = PutsNumber s at (clipped (Kept word) n) result new

-- a number is stored, if there is one
abbrev pub PutsIf : State → Option FlatStore → Result (Unit {0}) Stop → State → Type 0
PutsIf s None result new = Leads (Ok s) result new
PutsIf s (Some x) result new = PutsNumber s x.at x.number result new

-- the cells of a wide code of a process are there
abbrev pub HasWide : State → ℕ → WideCode → Type 0
HasWide s process code = AreCellsIn (joined s.frames) (base_of s.frames process) code

-- what it stores, if anything
abbrev pub stored_by : State → ℕ → WideCode → Result (Option FlatStore) Fault
stored_by s process code = wide_store (joined s.frames) (base_of s.frames process) (pos process) code

-- whether it can be taken
abbrev pub taken_by : State → ℕ → WideCode → Bool
taken_by s process code = or_fault (wide_ready (joined s.frames) (base_of s.frames process) (pos process) code)

-- the frames of the globals and of a process are as they are declared
pub record FitsIn (s : State) (process : ℕ) : Type 0 where
  pub stand : Stand
  pub at : slice_get s.stands process ≡ Some stand
  pub fits : Fits s.program.globals (variables_at s.program stand.sort) s.frames process

-- it is whether the statement with this number can be taken by itself by a process, in a d_step or not, under either `timeout`
abbrev pub AnswersCan : State → ℕ → ℕ → Bool → Type 0
AnswersCan s process n b = (x : Action) (timeout in_d_step : Bool) → IsNumbered s process n (Some (Plain x))
    → b ≡ can s.lossy s.channels (reads s process timeout) in_d_step x

-- the statement with this number is taken by a process, under either `timeout`
abbrev pub StoresBy : State → ℕ → ℕ → State → Result (Unit {0}) Stop → Type 0
StoresBy s process n new result = (x : Action) (timeout : Bool) → IsNumbered s process n (Some (Plain x))
    → Leads (put_by s (outcome x (reads s process timeout))) result new
