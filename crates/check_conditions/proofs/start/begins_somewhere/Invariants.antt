use Rattle.std.proofs.Common.{◌≡◌, ◌<◌, ℕ, take, Some, false}
use Rattle.std.specs.Prelude.{slice_get}
use Rattle.promela_model.specs.declared.mark.Mark.{Mark}
use Rattle.check_conditions.specs.Step.{begins_there}
use Rattle.check_conditions.proofs.start.begins_somewhere.Given as goal

abbrev pub invariant-loop-mark : goal.invariant-loop-mark
invariant-loop-mark l = (k : ℕ) (m : Mark) → k < l.mark-index → slice_get l.marks k ≡ Some m → begins_there (take k l.marks) m ≡ false
