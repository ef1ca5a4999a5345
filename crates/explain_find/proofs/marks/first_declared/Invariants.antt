use Rattle.std.proofs.Common.{◌≡◌, drop}
use Rattle.explain_find.specs.Marks.{first_declared}
use Rattle.explain_find.proofs.marks.first_declared.Given as goal

abbrev pub invariant-loop-mark : goal.invariant-loop-mark
invariant-loop-mark l = first_declared (drop l.mark-index l.marks) ≡ first_declared l.marks
