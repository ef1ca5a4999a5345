use Rattle.std.proofs.Common.{ℕ, ◌<◌, slice_index_or}
use Rattle.pml_program.specs.declared.program.Proctype.{Proctype}
use Rattle.explain_control.specs.Blamed.{NoCircle}
use Rattle.explain_control.proofs.proctypes.first_circle.Given as goal

abbrev pub invariant-loop-proctype : goal.invariant-loop-proctype
invariant-loop-proctype l = (k : ℕ) (p : Proctype) → k < l.proctype-index → NoCircle (slice_index_or l.proctypes k p).body
