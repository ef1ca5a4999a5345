use Rattle.std.proofs.Common.{◌≡◌, ◌≤◌, take}
use Rattle.std.specs.Prelude.{count_by}
use Rattle.explain_find.specs.Marks.{is_break}
use Rattle.explain_find.proofs.marks.count_breaks.Given as goal

abbrev pub invariant-loop-mark : goal.invariant-loop-mark
invariant-loop-mark l = (l.count ≡ count_by is_break (take l.mark-index l.marks)) × (l.count ≤ l.mark-index)
