use Rattle.std.proofs.Common.{◌≡◌, ◌++◌, drop}
use Rattle.pml_flow.specs.Graph.{all_levels}
use Rattle.pml_flow.proofs.graph.node_of.Given as goal

abbrev pub invariant-loop-number : goal.invariant-loop-number
invariant-loop-number l = l.levels.items ++ all_levels l.numbers (drop l.number-index l.site.shows) ≡ all_levels l.numbers l.site.shows
