use Rattle.std.proofs.Common.{◌≡◌, ◌++◌, length}
use Rattle.declared_steps.specs.Changes.{changes_by, changes}
use Rattle.declared_steps.proofs.changes.changes.Given as goal

abbrev pub invariant-loop-rest : goal.invariant-loop-rest
invariant-loop-rest l = l.out.items ++ changes_by l.stage l.last l.name l.word l.rest ≡ changes l.stretches

abbrev pub decreases-loop-rest : goal.decreases-loop-rest
decreases-loop-rest l = length l.rest
