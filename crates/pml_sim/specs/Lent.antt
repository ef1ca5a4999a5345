-- What a world lends to look at: its first state, its changes and its end.
use Rattle.std.specs.Prelude.{◌≡◌, ℕ, Bool, if◌then◌else◌, List, Ok}
use Rattle.pml_program.specs.declared.program.Program.{Program}
use Rattle.promela_run.specs.State.{State, first_state as begin}
use Rattle.run_values.specs.declared.changed.Change.{Change}
use Rattle.run_values.specs.Changed.{changes as changed, value_line as line_of}
use Rattle.promela_run.specs.Steps.{sorts}
use Rattle.promela_run.specs.World as ends
use Rattle.pml_sim.specs.declared.ending.Ending.{Ending}
use Rattle.pml_sim.specs.declared.ending.Ending.TheVariants.{Valid, Invalid}
use Rattle.promela_run.specs.World.{Running, first}

-- the first state of a model, whose initialisers have no fault
pub record IsFirst (p : Program) (lossy : Bool) (w : Running) : Type 0 where
  pub begun : State
  pub starts : begin p ≡ Ok begun
  pub is : w ≡ first begun lossy

-- the places that are there before the last step and now and whose numbers differ
abbrev pub changes : Running → List Change
changes w = changed w.past w.state.frames

-- the value line of one of them
abbrev pub value_line : Running → Change → List ℕ
value_line w c = line_of w.state.program (sorts w.state) c

-- whether each process may end where it stands
abbrev pub ending : Running → Ending
ending w = if ends.is_valid w.state then Valid else Invalid
