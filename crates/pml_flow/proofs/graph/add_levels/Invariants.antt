use Rattle.std.proofs.Common.{◌≡◌, ◌++◌, length, map, drop}
use Rattle.pml_flow.specs.Arms.{all_of, bounds_from}
use Rattle.pml_flow.specs.Graph.{edges_level}
use Rattle.pml_flow.proofs.graph.add_levels.Given as goal

abbrev pub invariant-loop-level : goal.invariant-loop-level
invariant-loop-level l = record {
  so_far : l.edges.items ++ all_of (map (edges_level l.tables) (drop l.level-index l.ways)) ≡ l.fn.edges.items ++ all_of (map (edges_level l.tables) l.ways);
  ends : l.bounds.items ++ bounds_from (length l.edges.items) (map (edges_level l.tables) (drop l.level-index l.ways)) ≡ l.fn.bounds.items ++ bounds_from (length l.fn.edges.items) (map (edges_level l.tables) l.ways);
}
