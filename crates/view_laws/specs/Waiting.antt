-- What processes of a text's model wait for.
use Rattle.std.specs.Prelude.{◌≡◌, ◌<◌, ℕ, true, List, [], length}
use Rattle.pml_program.specs.declared.program.Program.{Program}
use Rattle.promela_run.specs.Moves.{moves}
use Rattle.promela_run.specs.State.{State}
use Rattle.pml_play.specs.Parts.{IsReady}
use Rattle.view_waits.specs.Filled.{HasFilledBodies, StandAtNodes}
use Rattle.view_waits.specs.Waits.{is_in, waits}

-- the bodies of the model of each text are filled
abbrev pub TextsHaveFilledBodies : Type 0
TextsHaveFilledBodies = (text : List ℕ) (p : Program) → IsReady text p → HasFilledBodies p

-- a state of the model of this text, in which processes stand at nodes
pub record IsStateOf (text : List ℕ) (s : State) : Type 0 where
  pub ready : IsReady text s.program
  pub at_nodes : StandAtNodes s

-- In such a state a process waits for nothing exactly where it takes part in a move.
abbrev pub WaitsForNothingWhereItMoves : Type 0
WaitsForNothingWhereItMoves = (text : List ℕ) (s : State) (p : ℕ) → IsStateOf text s → p < length s.stands
    → (waits s p ≡ [] → is_in p (moves s) ≡ true) × (is_in p (moves s) ≡ true → waits s p ≡ [])
