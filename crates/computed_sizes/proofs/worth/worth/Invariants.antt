use Rattle.std.proofs.Common.{◌≡◌, length}
use Rattle.computed_sizes.specs.Worths.{worth_by, worth}
use Rattle.computed_sizes.proofs.worth.worth.Given as goal

abbrev pub invariant-loop-rest : goal.invariant-loop-rest
invariant-loop-rest l = worth_by l.course l.rest ≡ worth l.stretches

abbrev pub decreases-loop-rest : goal.decreases-loop-rest
decreases-loop-rest l = length l.rest
