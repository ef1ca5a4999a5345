use Rattle.std.proofs.Common.{◌≡◌, ◌++◌, drop}
use Rattle.check_uses.specs.Parts.{of_references}
use Rattle.check_uses.proofs.statement.references.Given as goal

abbrev pub invariant-loop-one : goal.invariant-loop-one
invariant-loop-one l = l.out ++ of_references (drop l.one-index l.all) l.owner ≡ l.initial.out ++ of_references l.all l.owner
