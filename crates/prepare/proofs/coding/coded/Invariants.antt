use Rattle.std.proofs.Common.{length}
use Rattle.prepare.proofs.Fronts.{Reached}
use Rattle.prepare.proofs.coding.coded.Given as goal

abbrev pub invariant-loop-rest : goal.invariant-loop-rest
invariant-loop-rest l = Reached l.text l.out.items l.fresh l.rest

abbrev pub decreases-loop-rest : goal.decreases-loop-rest
decreases-loop-rest l = length l.rest
