use Rattle.std.proofs.Common.{◌≡◌, ◌++◌, length}
use Rattle.prepare.specs.Sizes.{declared}
use Rattle.prepare.specs.Changes.{exchanges_by, exchanges}
use Rattle.prepare.proofs.changes.exchanges.Given as goal

abbrev pub invariant-loop-rest : goal.invariant-loop-rest
invariant-loop-rest l = l.out.items ++ exchanges_by (declared l.stretches) l.head l.rest ≡ exchanges l.stretches

abbrev pub decreases-loop-rest : goal.decreases-loop-rest
decreases-loop-rest l = length l.rest
