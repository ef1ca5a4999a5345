use Rattle.std.proofs.Common.{◌≡◌, ◌++◌, length}
use Rattle.names_apart.specs.Labels.{changes_by, changes}
use Rattle.names_apart.proofs.labelled.label_changes.Given as goal

abbrev pub invariant-loop-rest : goal.invariant-loop-rest
invariant-loop-rest l = l.out.items ++ changes_by l.name l.table l.labels l.rest ≡ changes l.name l.table l.stretches

abbrev pub decreases-loop-rest : goal.decreases-loop-rest
decreases-loop-rest l = length l.rest
