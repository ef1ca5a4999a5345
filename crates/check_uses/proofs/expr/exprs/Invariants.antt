use Rattle.std.proofs.Common.{◌≡◌, ◌++◌, drop}
use Rattle.check_uses.specs.Parts.{of_exprs}
use Rattle.check_uses.proofs.expr.exprs.Given as goal

abbrev pub invariant-loop-e : goal.invariant-loop-e
invariant-loop-e l = l.out ++ of_exprs (drop l.e-index l.all) l.owner ≡ l.initial.out ++ of_exprs l.all l.owner
