use Rattle.std.proofs.Common.{◌≡◌, ◌++◌, drop}
use Rattle.check_resolve.proofs.statement.copied.Given as goal

abbrev pub invariant-loop-label : goal.invariant-loop-label
invariant-loop-label l = l.copies ++ drop l.label-index l.labels ≡ l.labels
