use Rattle.std.proofs.Common.{◌+◌, ◌<◌, ◌∙◌, ◌∷◌, [], sym, ap, refl, arith, length, length-append}
use Rattle.std.specs.Prelude.{slice_get}
use Rattle.std.proofs.lemmas.Option.{slice_get_read}
use Rattle.pml_program.specs.declared.program.Proctype.{Proctype}
use Rattle.pml_flow.specs.Graph.{Graph, IsGraph}
use Rattle.pml_check.proofs.Pairing.{each_more}
use Rattle.pml_check.proofs.control.all_graphs.Goals as goal

pub build-requires-clause-plan : goal.build-requires-clause-plan
build-requires-clause-plan c =
    let ps = c.args.proctypes.now in
    let xs = c.args.plans.now in
    let k = c.loop-number.number in
    let l : k < length xs = omega (arith, c.loop-number-test.true, c.requires.plans.many) in
    c.requires.plans.each k c.index-proctypes-number.result c.index-plans-number.result
    (slice_get_read ps (length ps) k c.index-proctypes-number.result refl c.loop-number-test.true c.index-proctypes-number.is)
    (slice_get_read xs (length xs) k c.index-plans-number.result refl l c.index-plans-number.is)

pub loop-number-preserved : goal.loop-number-preserved
loop-number-preserved c =
    let ps = c.args.proctypes.now in
    let i = c.loop-number.number in
    let p = c.index-proctypes-number.result in
    let g = c.in_ok-build.field-0 in
    record {
      many = ap length c.in_ok-push.ensures.items ∙ length-append c.loop-number.graphs.items (g ∷ []) ∙ ap (λ n. n + 1) c.loop-number.invariant.many;
      each = λ k q x s t.
          each_more (λ (r : Proctype) (y : Graph). IsGraph r.body r.end.line y) ps c.loop-number.graphs.items p g
          (ap (slice_get ps) c.loop-number.invariant.many ∙ slice_get_read ps (length ps) i p refl c.loop-number-test.true c.index-proctypes-number.is)
          c.in_ok-build.ensures c.loop-number.invariant.each k q x s (ap (λ ys. slice_get ys k) (sym c.in_ok-push.ensures.items) ∙ t);
    }
