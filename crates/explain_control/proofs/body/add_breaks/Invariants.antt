use Rattle.std.proofs.Common.{◌≡◌, ◌≤◌, ◌++◌, length, drop}
use Rattle.explain_control.specs.Blamed.{breaks_in}
use Rattle.explain_control.proofs.body.add_breaks.Given as goal

abbrev pub invariant-loop-left : goal.invariant-loop-left
invariant-loop-left l = record {
  within : l.left ≤ length l.sites;
  so_far : l.breaks.items ≡ l.fn.breaks.items ++ breaks_in (drop l.left l.sites);
}

abbrev pub decreases-loop-left : goal.decreases-loop-left
decreases-loop-left l = l.left
