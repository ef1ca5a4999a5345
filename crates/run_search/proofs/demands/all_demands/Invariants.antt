use Rattle.std.proofs.Common.{◌≡◌, ◌≤◌, ◌-◌, length}
use Rattle.run_search.specs.Demands.{AreDemands}
use Rattle.run_search.proofs.demands.all_demands.Given as goal

-- the processes that are left
abbrev pub decreases-loop-j : goal.decreases-loop-j
decreases-loop-j l = length l.live.state.stands - l.j

-- each that was looked at is known
abbrev pub invariant-loop-j : goal.invariant-loop-j
invariant-loop-j l = record {
  known : AreDemands l.live.state l.timeout l.demands.items;
  many : length l.demands.items ≡ l.j;
  within : l.j ≤ length l.live.state.stands;
}
