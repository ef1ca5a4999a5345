use Rattle.std.proofs.Common.{◌-◌, ◌≤◌, length}
use Rattle.names_apart.proofs.apart.next_division.Given as goal

abbrev pub invariant-loop-at : goal.invariant-loop-at
invariant-loop-at l = l.fn.from ≤ l.at

abbrev pub decreases-loop-at : goal.decreases-loop-at
decreases-loop-at l = length l.names - l.at
