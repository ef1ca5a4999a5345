use Rattle.std.proofs.Common.{◌≡◌, ◌≤◌, length, drop, map, []}
use Rattle.run_state.specs.Standing.{shows, edges_at}
use Rattle.promela_run.specs.Moves.{last, moves_on}
use Rattle.run_search.proofs.process.add_moves_down.Given as goal

abbrev pub decreases-loop-level : goal.decreases-loop-level
decreases-loop-level l = l.level

-- nothing is added yet, since the levels above give nothing
abbrev pub invariant-loop-level : goal.invariant-loop-level
invariant-loop-level l = record {
  same : l.moves.items ≡ l.initial.moves.items;
  within : l.level ≤ length (edges_at l.body l.node);
  above : last (moves_on l.round.live.now.state l.process l.round.timeout l.body.proctype.now.body) l.level (drop l.level (map (map (shows l.body)) (edges_at l.body l.node))) ≡ [];
}
