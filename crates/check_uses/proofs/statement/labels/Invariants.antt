use Rattle.std.proofs.Common.{◌≡◌, ◌++◌, drop}
use Rattle.check_uses.specs.Parts.{of_labels}
use Rattle.check_uses.proofs.statement.labels.Given as goal

abbrev pub invariant-loop-one : goal.invariant-loop-one
invariant-loop-one l = l.out ++ of_labels (drop l.one-index l.all) l.owner ≡ l.initial.out ++ of_labels l.all l.owner
