use Rattle.std.proofs.Common.{◌≡◌, ◌++◌, ◌-◌, length}
use Rattle.run_search.specs.Kept.{Extends}
use Rattle.run_search.specs.Round.{round_behind}
use Rattle.run_search.proofs.runs.add_moves_of_many.Given as goal

-- the processes that are left
abbrev pub decreases-loop-process : goal.decreases-loop-process
decreases-loop-process l = length l.round.live.now.state.stands - l.process

-- what is added and those behind are all
abbrev pub invariant-loop-process : goal.invariant-loop-process
invariant-loop-process l = record {
  same : l.moves.items ++ round_behind l.round l.process ≡ l.initial.moves.items ++ round_behind l.round 0;
  kept : Extends l.moves.items l.initial.moves.items;
}
