use Rattle.std.proofs.Common.{◌≡◌, ◌++◌, drop}
use Rattle.pml_flow.specs.Only.{only_spans}
use Rattle.pml_flow.proofs.graph.only_spans.Given as goal

-- those of the nodes so far, and of the rest
abbrev pub invariant-loop-node : goal.invariant-loop-node
invariant-loop-node l = l.spans.items ++ only_spans l.bounds (drop l.node-index l.nodes) ≡ only_spans l.bounds l.nodes
