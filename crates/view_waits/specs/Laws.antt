-- What is said of what processes wait for.
use Rattle.std.specs.Prelude.{◌≡◌, ◌<◌, ◌⊎◌, ℕ, true, false, length, [], None, Some}
use Rattle.std.specs.List.{AllByRecursion, Contains}
use Rattle.promela_process.specs.Offers.{Offer}
use Rattle.promela_run.specs.declared.moves.Pick.{Pick}
use Rattle.promela_run.specs.State.{picked, State, reads}
use Rattle.promela_run.specs.Moves.{moves}
use Rattle.view_waits.specs.Waits.{is_in, in_control, last_timeout, wait_of, waits}
use Rattle.view_waits.specs.Why.{IsTrueOf}

-- each reason that is given is so
abbrev pub ReasonsAreTrue : Type 0
ReasonsAreTrue = (s : State) (p : ℕ) → AllByRecursion (IsTrueOf s p) (waits s p)

-- the process has no offer where it stands
abbrev pub IsOfferedNothing : State → ℕ → Type 0
IsOfferedNothing s p = (k : Pick) → k.process ≡ p → picked s k ≡ None

-- a process that takes part in a move waits for nothing
abbrev pub MovesWithoutWaiting : Type 0
MovesWithoutWaiting = (s : State) (p : ℕ) → is_in p (moves s) ≡ true → waits s p ≡ []

-- one that takes part in none waits for something, unless it is offered nothing
abbrev pub WaitsWithoutMoves : Type 0
WaitsWithoutMoves = (s : State) (p : ℕ) → p < length s.stands → waits s p ≡ [] → (is_in p (moves s) ≡ true) ⊎ IsOfferedNothing s p

-- where nobody has exclusive control and a move, each offer of a process that takes part in no move is among what it waits for
abbrev pub WaitsForEachOffer : Type 0
WaitsForEachOffer = (s : State) (k : Pick) (o : Offer) → is_in k.process (moves s) ≡ false → in_control s ≡ None → picked s k ≡ Some o
    → Contains (waits s k.process) (wait_of s.channels (reads s k.process (last_timeout s)) k o)
