use Rattle.std.proofs.Common.{◌≢◌, ◌≤◌, ℕ, length}
use Rattle.pml_control.specs.declared.ends.Ending.TheVariants as ending
use Rattle.pml_control.specs.Ends.{ending_of}
use Rattle.explain_control.proofs.circle.last_circling.Given as goal

abbrev pub invariant-loop-left : goal.invariant-loop-left
invariant-loop-left l = record {
  within : l.left ≤ length l.ends;
  above : (k : ℕ) → l.left ≤ k → ending_of l.ends k ≢ ending.Circles;
}

abbrev pub decreases-loop-left : goal.decreases-loop-left
decreases-loop-left l = l.left
