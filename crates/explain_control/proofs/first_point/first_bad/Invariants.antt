use Rattle.std.proofs.Common.{◌≡◌, ◌≤◌, ◌<◌, ℕ, false, length}
use Rattle.explain_control.specs.Blamed.{is_bad}
use Rattle.explain_control.proofs.first_point.first_bad.Given as goal

abbrev pub invariant-loop-left : goal.invariant-loop-left
invariant-loop-left l = record {
  within : l.left ≤ length l.sites;
  above : (j : ℕ) → l.left ≤ j → j < length l.sites → is_bad l.sites l.ends j ≡ false;
}

abbrev pub decreases-loop-left : goal.decreases-loop-left
decreases-loop-left l = l.left
