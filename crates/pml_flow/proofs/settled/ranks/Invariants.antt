use Rattle.std.proofs.Common.{◌≡◌, ◌≤◌, ◌++◌, drop}
use Rattle.pml_flow.specs.Graph.{ranks_from}
use Rattle.pml_flow.proofs.settled.ranks.Given as goal

abbrev pub invariant-loop-step : goal.invariant-loop-step
invariant-loop-step l = record {
  few : l.count ≤ l.step-index;
  so_far : l.ranks.items ++ ranks_from l.count (drop l.step-index l.next) ≡ ranks_from 0 l.next;
}
