use Rattle.std.proofs.Common.{◌≡◌, length}
use Rattle.names_apart.specs.Labels.{labelled_by, labelled}
use Rattle.names_apart.proofs.labelled.labelled_of.Given as goal

abbrev pub invariant-loop-rest : goal.invariant-loop-rest
invariant-loop-rest l = labelled_by l.name l.labels l.table.items l.home l.most l.is_left l.rest ≡ labelled l.name l.stretches

abbrev pub decreases-loop-rest : goal.decreases-loop-rest
decreases-loop-rest l = length l.rest
