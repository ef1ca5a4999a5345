use Rattle.std.proofs.Common.{ℕ, ◌<◌, slice_index_or}
use Rattle.pml_program.specs.declared.program.Proctype.{Proctype}
use Rattle.explain_control.specs.Blamed.{NoStepIsBad}
use Rattle.explain_control.proofs.proctypes.first_bad_point.Given as goal

abbrev pub invariant-loop-proctype : goal.invariant-loop-proctype
invariant-loop-proctype l = (k : ℕ) (p : Proctype) → k < l.proctype-index → NoStepIsBad (slice_index_or l.proctypes k p).body
