use Rattle.std.proofs.Common.{◌≤◌, length}
use Rattle.names_apart.specs.declared.candidates.TheConstants.{MOST_NAMES}
use Rattle.names_apart.proofs.candidates.add_labels.Given as goal

abbrev pub invariant-loop-rest : goal.invariant-loop-rest
invariant-loop-rest l = length l.initial.out.items ≤ MOST_NAMES → length l.out.items ≤ MOST_NAMES

abbrev pub decreases-loop-rest : goal.decreases-loop-rest
decreases-loop-rest l = length l.rest
