use Rattle.std.proofs.Common.{◌≡◌, false, length}
use Rattle.listed_values.specs.Lists.{same_from}
use Rattle.listed_values.proofs.lists.is_same.Given as goal

abbrev pub invariant-loop-rest : goal.invariant-loop-rest
invariant-loop-rest l = same_from l.is_value l.value l.rest ≡ same_from false l.value l.stretches

abbrev pub decreases-loop-rest : goal.decreases-loop-rest
decreases-loop-rest l = length l.rest
