use Rattle.std.proofs.Common.{◌≡◌, length}
use Rattle.run_search.specs.Demands.{AreDemands}
use Rattle.run_search.proofs.demands.add_demands_behind.Given as goal

-- each that was looked at is known
abbrev pub invariant-loop-j : goal.invariant-loop-j
invariant-loop-j l = record {
  known : AreDemands l.live.state l.timeout l.demands.items;
  many : length l.demands.items ≡ l.j;
}
