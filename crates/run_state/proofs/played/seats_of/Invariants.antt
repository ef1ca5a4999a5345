use Rattle.std.proofs.Common.{◌≡◌, ◌++◌, drop, map}
use Rattle.run_state.specs.Standing.{stand_of}
use Rattle.promela_run.specs.State.{begins_at}
use Rattle.run_state.specs.Held.{sorts_of}
use Rattle.run_state.proofs.played.seats_of.Given as goal

-- the processes so far, and the rest
abbrev pub invariant-loop-sort : goal.invariant-loop-sort
invariant-loop-sort l = record {
  stands : map (stand_of l.played) l.seats.items ++ map (begins_at l.played) (drop l.sort-index l.sorts) ≡ map (begins_at l.played) l.sorts;
  sorts : sorts_of l.seats.items ++ drop l.sort-index l.sorts ≡ l.sorts;
}
