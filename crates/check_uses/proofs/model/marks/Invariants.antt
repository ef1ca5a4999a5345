use Rattle.std.proofs.Common.{◌≡◌, ◌≤◌, ◌++◌, ◌+◌, drop}
use Rattle.promela_model.specs.Marks.{of_units}
use Rattle.check_uses.proofs.model.marks.Given as goal

abbrev pub invariant-loop-i : goal.invariant-loop-i
invariant-loop-i l = record {
  out : l.out ++ of_units (l.i + 1) l.proctypes (drop l.i l.one-items) ≡ of_units 1 0 l.one-items;
  proctypes : l.proctypes ≤ l.i;
}
