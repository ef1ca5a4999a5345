use Rattle.std.proofs.Common.{◌-◌, ◌≤◌, ◌<◌, length, slice_index_or}
use Rattle.run_layout.proofs.layout.last_start.Given as goal

-- the last lies between the two
abbrev pub invariant-loop-low : goal.invariant-loop-low
invariant-loop-low l = record {
  between : l.low < l.high;
  within : l.high ≤ length l.starts;
  begun : slice_index_or l.starts l.low 0 ≤ l.at;
  past : l.high < length l.starts → l.at < slice_index_or l.starts l.high 0;
}

abbrev pub decreases-loop-low : goal.decreases-loop-low
decreases-loop-low l = l.high - l.low
