use Rattle.std.proofs.Common.{◌≡◌, ◌≤◌, true, length}
use Rattle.listed_values.specs.declared.lists.TheConstants.{MOST_VALUES}
use Rattle.listed_values.specs.Lists.{count_from}
use Rattle.listed_values.proofs.lists.count_values.Given as goal

abbrev pub invariant-loop-rest : goal.invariant-loop-rest
invariant-loop-rest l = (count_from l.is_value l.count l.rest ≡ count_from true 0 l.stretches) × (l.count ≤ MOST_VALUES)

abbrev pub decreases-loop-rest : goal.decreases-loop-rest
decreases-loop-rest l = length l.rest
