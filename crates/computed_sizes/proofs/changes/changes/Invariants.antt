use Rattle.std.proofs.Common.{◌≡◌, ◌++◌, length}
use Rattle.computed_sizes.specs.Sized.{changes_by, changes}
use Rattle.computed_sizes.proofs.changes.changes.Given as goal

abbrev pub invariant-loop-rest : goal.invariant-loop-rest
invariant-loop-rest l = l.out.items ++ changes_by l.place l.reading l.rest ≡ changes l.stretches

abbrev pub decreases-loop-rest : goal.decreases-loop-rest
decreases-loop-rest l = length l.rest
