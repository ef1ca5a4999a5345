use Rattle.std.proofs.Common.{◌≡◌, ◌++◌, length}
use Rattle.mtype_commas.specs.Changes.{changes_by, changes}
use Rattle.mtype_commas.proofs.changes.changes.Given as goal

abbrev pub invariant-loop-rest : goal.invariant-loop-rest
invariant-loop-rest l = l.out.items ++ changes_by l.place l.rest ≡ changes l.stretches

abbrev pub decreases-loop-rest : goal.decreases-loop-rest
decreases-loop-rest l = length l.rest
