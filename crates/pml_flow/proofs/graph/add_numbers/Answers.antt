use Rattle.std.proofs.Common.{◌<◌, ◌+◌, ◌-◌, ◌++◌, ◌∷◌, ◌∙◌, [], sym, ap, arith, append_assoc}
use Rattle.std.specs.Prelude.{slice_index_or}
use Rattle.pml_flow.specs.Graph.{span}
use Rattle.pml_flow.proofs.Parting.{span_more}
use Rattle.pml_flow.proofs.graph.add_numbers.Goals as goal

pub loop-level-preserved : goal.loop-level-preserved
loop-level-preserved c =
    let end = slice_index_or c.args.numbers.now c.args.number 0 in
    let l = c.loop-level.level in
    let h : l < end = omega (arith, c.loop-level-test.true, c.bound-level-end.ensures) in
    ap (λ r. r ++ span (l + 1) (end - (l + 1))) c.in_ok-push.ensures.items
    ∙ append_assoc c.loop-level.levels.items (l ∷ []) (span (l + 1) (end - (l + 1)))
    ∙ ap (λ r. c.loop-level.levels.items ++ r) (sym (span_more l end h))
    ∙ c.loop-level.invariant
