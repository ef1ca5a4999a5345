use Rattle.std.proofs.Common.{◌≡◌, ◌++◌, ◌-◌}
use Rattle.std.specs.Prelude.{slice_index_or}
use Rattle.pml_flow.specs.Graph.{span, levels_by}
use Rattle.pml_flow.proofs.graph.add_numbers.Given as goal

abbrev pub invariant-loop-level : goal.invariant-loop-level
invariant-loop-level l = l.levels.items ++ span l.level (slice_index_or l.numbers l.number 0 - l.level) ≡ l.fn.levels.items ++ levels_by l.numbers l.number
