use Rattle.std.proofs.Common.{◌≡◌, ◌≤◌, length, drop}
use Rattle.run_values.specs.Written.{oldest}
use Rattle.run_values.proofs.change.oldest.Given as goal

-- the writes from here on are done
abbrev pub invariant-loop-left : goal.invariant-loop-left
invariant-loop-left l = record {
  within : l.left ≤ length l.written;
  same : l.numbers.entries ≡ oldest (drop l.left l.written);
}

abbrev pub decreases-loop-left : goal.decreases-loop-left
decreases-loop-left l = l.left
