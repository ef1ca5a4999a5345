use Rattle.std.proofs.Common.{take}
use Rattle.declared_names.specs.Tables.{AreLabels}
use Rattle.declared_names.proofs.sites.all_labels.Given as goal

abbrev pub invariant-loop-mark : goal.invariant-loop-mark
invariant-loop-mark l = AreLabels (take l.mark-index l.marks) l.labels
