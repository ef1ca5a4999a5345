use Rattle.std.proofs.Common.{◌≡◌, ◌<◌, ℕ, take, reverse, Some, false}
use Rattle.std.specs.Prelude.{slice_get}
use Rattle.promela_model.specs.declared.mark.Mark.{Mark}
use Rattle.check_conditions.specs.Open.{rounds}
use Rattle.check_conditions.specs.Step.{breaks_loose}
use Rattle.check_conditions.proofs.first_crossed.first_loose.Given as goal

abbrev pub invariant-loop-i : goal.invariant-loop-i
invariant-loop-i l = record {
  here : l.rounds ≡ rounds (reverse (take l.i l.marks));
  none : (k : ℕ) (m : Mark) → k < l.i → slice_get l.marks k ≡ Some m → breaks_loose (take k l.marks) m ≡ false;
}
