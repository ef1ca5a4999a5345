use Rattle.std.proofs.Common.{length}
use Rattle.prepare.proofs.Lining.{Reached}
use Rattle.prepare.proofs.numbering.numbered.Given as goal

abbrev pub invariant-loop-standing : goal.invariant-loop-standing
invariant-loop-standing l = Reached l.text l.out.items l.standing l.rest

abbrev pub decreases-loop-standing : goal.decreases-loop-standing
decreases-loop-standing l = length l.rest
