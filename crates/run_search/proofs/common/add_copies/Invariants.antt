use Rattle.std.proofs.Common.{◌≡◌, ◌++◌, take, drop, map}
use Rattle.common_offers.specs.Offers.{by_process}
use Rattle.run_search.specs.Kept.{Extends}
use Rattle.run_search.proofs.common.add_copies.Given as goal

-- what is added and the rest's copies are all
abbrev pub invariant-loop-at : goal.invariant-loop-at
invariant-loop-at l = record {
  same : l.moves.items ++ map (by_process l.process) (drop l.at (take l.end l.initial.moves.items)) ≡ l.initial.moves.items ++ map (by_process l.process) (drop l.first (take l.end l.initial.moves.items));
  kept : Extends l.moves.items l.initial.moves.items;
}
