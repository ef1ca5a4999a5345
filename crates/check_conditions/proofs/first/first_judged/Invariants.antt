use Rattle.std.proofs.Common.{◌≡◌, ◌≤◌, ◌<◌, ℕ, Some, false, length, take}
use Rattle.std.specs.Prelude.{slice_get}
use Rattle.promela_model.specs.declared.mark.Mark.{Mark}
use Rattle.check_names.specs.Env.{env}
use Rattle.check_names.specs.Totals.{IsTotalled}
use Rattle.check_conditions.specs.First.{broken_at}
use Rattle.check_conditions.specs.Labels.{AreLabels}
use Rattle.check_conditions.proofs.first.first_judged.Given as goal

abbrev pub invariant-loop-i : goal.invariant-loop-i
invariant-loop-i l = record {
  table : l.names.table ≡ env (take l.i l.marks);
  few : length l.names.table ≤ l.i;
  labels : AreLabels (take l.i l.marks) l.labels;
  totalled : IsTotalled l.names.table l.names.totals l.names.constants;
  none : (k : ℕ) (m : Mark) → k < l.i → slice_get l.marks k ≡ Some m → broken_at l.condition l.marks (take k l.marks) m ≡ false;
}
