use Rattle.std.proofs.Common.{◌≡◌, ◌++◌, ◌+◌}
use Rattle.run_search.specs.Kept.{Extends}
use Rattle.run_search.specs.Round.{round_behind}
use Rattle.run_search.proofs.runs.add_moves_behind.Given as goal

-- what is added and those behind are all
abbrev pub invariant-loop-process : goal.invariant-loop-process
invariant-loop-process l = record {
  same : l.moves.items ++ round_behind l.round l.process ≡ l.initial.moves.items ++ round_behind l.round (l.asked + 1);
  kept : Extends l.moves.items l.initial.moves.items;
}
