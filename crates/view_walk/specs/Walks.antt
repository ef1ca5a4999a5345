-- A walk through the states of a model: its choices, and a place on them.
use Rattle.std.specs.Prelude.{◌≡◌, ◌≤◌, ℕ, Bool, false, List, length, take, Option, Some, None, Result, Ok, Err}
use Rattle.diagnostics.specs.declared.fault.Fault.{Fault}
use Rattle.pml_program.specs.declared.program.Program.{Program}
use Rattle.promela_run.specs.State.{State, first_state}
use Rattle.promela_run.specs.World.{Running, first, world_moves, rules}
use Rattle.view_walk.specs.declared.leg.Leg.{Leg}
use Rattle.view_walk.specs.Choices.{led_from, with_leg}

-- the first state, where its initialisers have no fault
abbrev pub started : Bool → Result State Fault → Option Running
started lossy (Ok s) = Some (first s lossy)
started lossy (Err f) = None

-- the state of a model behind these choices
abbrev pub walked : Program → Bool → List Leg → Option Running
walked p lossy ts = led_from rules (started lossy (first_state p)) ts

-- A walk: its choices, how many of them stand, and the state of the machine. It is lost where memory was refused on the way there.
pub record Walked : Type 0 where
  pub program : Program
  pub lossy : Bool
  pub legs : List Leg
  pub at : ℕ
  pub is_lost : Bool
  pub state : Running

-- Its choices lead from state to state, from the first state of the model on; the machine is in the state behind those that stand.
pub record IsWalk (w : Walked) : Type 0 where
  pub within : w.at ≤ length w.legs
  pub last : Running
  pub whole : walked w.program w.lossy w.legs ≡ Some last
  pub here : w.is_lost ≡ false → walked w.program w.lossy (take w.at w.legs) ≡ Some w.state

-- the same model
pub record SameModel (old new : Walked) : Type 0 where
  pub program : new.program ≡ old.program
  pub lossy : new.lossy ≡ old.lossy

-- the same choices, and as many of them stand
pub record StandsAs (old new : Walked) : Type 0 where
  pub legs : new.legs ≡ old.legs
  pub at : new.at ≡ old.at

-- the choices of a walk behind the one with this number
abbrev pub legs_behind : Walked → ℕ → List Leg
legs_behind w k = with_leg w.legs w.at (record { choice = k; of = length (world_moves w.state) })
