use Rattle.std.proofs.Common.{◌≡◌, ℕ, Some, length}
use Rattle.std.specs.Prelude.{slice_get}
use Rattle.pml_program.specs.declared.program.Proctype.{Proctype}
use Rattle.pml_flow.specs.Graph.{Graph, IsGraph}
use Rattle.pml_check.proofs.control.all_graphs.Given as goal

-- those of the proctypes before
abbrev pub invariant-loop-number : goal.invariant-loop-number
invariant-loop-number l = record {
  many : length l.graphs.items ≡ l.number;
  each : (k : ℕ) (p : Proctype) (g : Graph) → slice_get l.proctypes k ≡ Some p → slice_get l.graphs.items k ≡ Some g → IsGraph p.body p.end.line g;
}
