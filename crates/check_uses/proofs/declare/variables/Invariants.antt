use Rattle.std.proofs.Common.{◌≡◌, ◌++◌, drop}
use Rattle.promela_model.specs.Marks.{of_variables}
use Rattle.check_uses.proofs.declare.variables.Given as goal

abbrev pub invariant-loop-one : goal.invariant-loop-one
invariant-loop-one l = l.out ++ of_variables l.role l.holder (drop l.one-index l.all) l.owner ≡ l.initial.out ++ of_variables l.role l.holder l.all l.owner
