-- In which body the process of a pick stands.
use Rattle.std.specs.Prelude.{◌≡◌, Some, slice_get}
use Rattle.promela_run.specs.declared.moves.Pick.{Pick}
use Rattle.promela_run.specs.State.{State}
use Rattle.run_state.specs.declared.body.Body.{Body}
use Rattle.run_state.specs.declared.seat.Seat.{Seat}
use Rattle.run_state.specs.Standing.{stand_of, StandsIn}

-- The process of a pick stands in this body.
pub record IsPicked (s : State) (p : Pick) (k : Body) : Type 0 where
  pub seat : Seat
  pub at : slice_get s.stands p.process ≡ Some (stand_of s.program seat)
  pub stands : StandsIn s seat k
