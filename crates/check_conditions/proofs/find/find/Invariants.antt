use Rattle.std.proofs.Common.{◌≡◌, ◌≤◌, length, take}
use Rattle.check_names.specs.Env.{env}
use Rattle.check_names.specs.Totals.{IsTotalled}
use Rattle.promela_model.specs.declared.condition.Condition.TheVariants as condition
use Rattle.promela_model.specs.Decided.{broken}
use Rattle.check_conditions.specs.Labels.{AreLabels}
use Rattle.check_conditions.proofs.Looking.{SoFar}
use Rattle.check_conditions.proofs.find.find.Given as goal

abbrev pub invariant-loop-mark : goal.invariant-loop-mark
invariant-loop-mark l = record {
  table : l.names.table ≡ env (take l.mark-index l.marks);
  few : length l.names.table ≤ l.mark-index;
  labels : AreLabels (take l.mark-index l.marks) l.labels;
  totalled : IsTotalled l.names.table l.names.totals l.names.constants;
  twice : SoFar (broken condition.Twice l.marks) l.marks l.mark-index l.found.twice;
  unknown : SoFar (broken condition.Unknown l.marks) l.marks l.mark-index l.found.unknown;
  wrong : SoFar (broken condition.Wrong l.marks) l.marks l.mark-index l.found.wrong;
  arguments : SoFar (broken condition.Arguments l.marks) l.marks l.mark-index l.found.arguments;
  label : SoFar (broken condition.Label l.marks) l.marks l.mark-index l.found.label;
  range : SoFar (broken condition.Range l.marks) l.marks l.mark-index l.found.range;
  cells : SoFar (broken condition.Cells l.marks) l.marks l.mark-index l.found.cells;
}
