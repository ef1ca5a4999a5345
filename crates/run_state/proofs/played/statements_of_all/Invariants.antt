use Rattle.std.proofs.Common.{◌≡◌, take, map}
use Rattle.pml_program.specs.declared.program.Proctype.{Proctype}
use Rattle.run_state.specs.Standing.{statements_of}
use Rattle.run_state.proofs.played.statements_of_all.Given as goal

-- those of the proctypes so far
abbrev pub invariant-loop-proctype : goal.invariant-loop-proctype
invariant-loop-proctype l = l.all.items ≡ map (λ (q : Proctype). statements_of q.body) (take l.proctype-index l.proctypes)
