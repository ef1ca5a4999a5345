use Rattle.std.proofs.Common.{◌≡◌, drop}
use Rattle.pml_flow.specs.Graph.{flag_edges}
use Rattle.pml_flow.proofs.graph.flag_edges.Given as goal

abbrev pub invariant-loop-edge : goal.invariant-loop-edge
invariant-loop-edge l = flag_edges l.flags.items (drop l.edge-index l.edges) ≡ flag_edges l.initial.flags.items l.edges
