use Rattle.std.proofs.Common.{◌≡◌, ◌++◌, length}
use Rattle.listed_values.specs.Changes.{changes_by, changes}
use Rattle.listed_values.proofs.changes.changes.Given as goal

abbrev pub invariant-loop-rest : goal.invariant-loop-rest
invariant-loop-rest l = l.out.items ++ changes_by l.course l.is_set l.rest ≡ changes l.is_set l.stretches

abbrev pub decreases-loop-rest : goal.decreases-loop-rest
decreases-loop-rest l = length l.rest
