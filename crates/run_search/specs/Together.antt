-- Seats at which every process can take the same, so that one is asked for all.
use Rattle.std.specs.Prelude.{◌≡◌, ◌+◌, ◌<◌, ◌≤◌, ℕ, Bool, length, map, Some, slice_get}
use Rattle.promela_run.specs.State.{State}
use Rattle.promela_run.specs.Moves.{moves_at}
use Rattle.common_offers.specs.Offers.{by_process}
use Rattle.run_state.specs.declared.seat.Seat.{Seat}
use Rattle.run_state.specs.Standing.{stand_of}
use Rattle.run_search.specs.declared.demand.Demand.{Demand}
use Rattle.run_search.specs.Demands.{DemandsFor}

-- Each process that stands here has the moves of another, by its own offers, but the youngest, who may die; and where one waits for
-- some messages alone, each does.
pub record IsCommonSeat (s : State) (x : Seat) : Type 0 where
  pub moves : (t : Bool) (p m : ℕ) → p + 1 < length s.stands → m + 1 < length s.stands → moves_at s m t (stand_of s.program x) ≡ map (by_process m) (moves_at s p t (stand_of s.program x))
  pub demands : (t : Bool) (p j : ℕ) (w : Demand) → p + 1 < length s.stands → j + 1 < length s.stands → DemandsFor s t p (stand_of s.program x) w → DemandsFor s t j (stand_of s.program x) w

-- the processes from the first on, up to the other, stand there
abbrev pub StandThere : State → Seat → ℕ → ℕ → Type 0
StandThere s x first end = (m : ℕ) → first ≤ m → m < end → slice_get s.stands m ≡ Some (stand_of s.program x)
