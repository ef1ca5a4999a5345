use Rattle.std.proofs.Common.{take}
use Rattle.check_conditions.specs.Labels.{AreLabels}
use Rattle.check_conditions.proofs.labels.all_labels.Given as goal

abbrev pub invariant-loop-mark : goal.invariant-loop-mark
invariant-loop-mark l = AreLabels (take l.mark-index l.marks) l.labels
