use Rattle.std.proofs.Common.{◌-◌, ◌<◌, ◌≤◌}
use Rattle.run_search.specs.Together.{StandThere}
use Rattle.run_search.proofs.common.behind_eights.Given as goal

-- the processes that are left
abbrev pub decreases-loop-at : goal.decreases-loop-at
decreases-loop-at l = l.youngest - l.at

-- each so far stands there
abbrev pub invariant-loop-at : goal.invariant-loop-at
invariant-loop-at l = record {
  order : l.process < l.at;
  within : l.at ≤ l.youngest;
  there : StandThere l.live.state l.seat l.process l.at;
}
