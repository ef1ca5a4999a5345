use Rattle.std.proofs.Common.{◌∙◌, ◌++◌, ◌∷◌, [], ap, sym, get_or}
use Rattle.std.proofs.lemmas.List.{map_more}
use Rattle.pml_program.specs.declared.program.Proctype.{Proctype}
use Rattle.run_state.specs.Standing.{statements_of}
use Rattle.run_state.proofs.played.statements_of_all.Goals as goal

pub loop-proctype-preserved : goal.loop-proctype-preserved
loop-proctype-preserved c =
    c.in_ok-push.ensures.items ∙ ap (λ v. c.loop-proctype.all.items ++ v ∷ []) c.in_ok-all_statements.ensures
    ∙ ap (λ (q : Proctype). c.loop-proctype.all.items ++ statements_of q.body ∷ []) c.proctype-item.is
    ∙ ap (λ vs. vs ++ statements_of (get_or c.args.proctypes.now c.loop-proctype.proctype-index c.proctype-item.result).body ∷ []) c.loop-proctype.invariant
    ∙ sym (map_more (λ (q : Proctype). statements_of q.body) c.args.proctypes.now c.loop-proctype.proctype-index c.proctype-item.result c.loop-proctype-test.true)
