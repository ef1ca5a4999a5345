use Rattle.std.proofs.Common.{◌≡◌, map, take}
use Rattle.pml_flow.specs.Graph.{node_by}
use Rattle.pml_flow.proofs.settled.targets.Given as goal

abbrev pub invariant-loop-end : goal.invariant-loop-end
invariant-loop-end l = l.targets.items ≡ map (node_by l.ranks) (take l.end-index l.ends)
