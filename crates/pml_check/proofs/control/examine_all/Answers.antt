use Rattle.std.proofs.Common.{◌+◌, ◌∙◌, ◌∷◌, ◌||◌, [], Bool, sym, ap, subst, refl, arith, length, length-append}
use Rattle.std.specs.Prelude.{slice_get}
use Rattle.std.proofs.lemmas.Option.{slice_get_read}
use Rattle.pml_program.specs.declared.program.Proctype.{Proctype}
use Rattle.promela_process.specs.Control.{Circle, SettlesEverywhere, BadFirstPoint, FirstPointsFit}
use Rattle.pml_control.specs.Plan.{Plan, IsPlan}
use Rattle.pml_control.specs.declared.findings.Findings.{Findings}
use Rattle.pml_check.proofs.Looking.{SoFar, so_far-more}
use Rattle.pml_check.proofs.Pairing.{each_more, each_none}
use Rattle.pml_check.proofs.Models.{circle_here, point_here, circles_of, steps_of}
use Rattle.pml_check.proofs.control.examine_all.Goals as goal

pub loop-proctype-init : goal.loop-proctype-init
loop-proctype-init c = record {
  circle = λ k p lt s. absurd (omega arith);
  first_point = λ k p lt s. absurd (omega arith);
  many = ap length c.new-plans.ensures.items;
  each = λ k p x s t. each_none (λ (q : Proctype) (y : Plan). IsPlan q.body y) c.args.proctypes.now k p x s (ap (λ ys. slice_get ys k) (sym c.new-plans.ensures.items) ∙ t);
}

pub loop-proctype-preserved : goal.loop-proctype-preserved
loop-proctype-preserved c =
    let ps = c.args.proctypes.now in
    let i = c.loop-proctype.proctype-index in
    let p = c.proctype-item.result in
    let one : Findings = c.in_ok-plan.plan.findings in
    record {
      circle = subst (λ (b : Bool). SoFar (λ (q : Proctype). Circle q.body) (λ (q : Proctype). SettlesEverywhere q.body) ps (i + 1) b) (sym (c.either-found.ensures.circle ∙ ap (λ (f : Findings). c.loop-proctype.found.circle || f.circle) c.findings.ensures))
          (so_far-more _ _ ps i p _ one.circle c.loop-proctype-test.true c.proctype-item.is c.loop-proctype.invariant.circle (circle_here p one.circle c.in_ok-plan.ensures.circle));
      first_point = subst (λ (b : Bool). SoFar (λ (q : Proctype). BadFirstPoint q.body) (λ (q : Proctype). FirstPointsFit q.body) ps (i + 1) b) (sym (c.either-found.ensures.first_point ∙ ap (λ (f : Findings). c.loop-proctype.found.bad_first_point || f.bad_first_point) c.findings.ensures))
          (so_far-more _ _ ps i p _ one.bad_first_point c.loop-proctype-test.true c.proctype-item.is c.loop-proctype.invariant.first_point (point_here p one.bad_first_point c.in_ok-plan.ensures.first_point));
      many = ap length c.in_ok-push.ensures.items ∙ length-append c.loop-proctype.plans.items (c.in_ok-plan.plan ∷ []) ∙ ap (λ n. n + 1) c.loop-proctype.invariant.many;
      each = λ k q x s t.
          each_more (λ (r : Proctype) (y : Plan). IsPlan r.body y) ps c.loop-proctype.plans.items p c.in_ok-plan.plan
          (ap (slice_get ps) c.loop-proctype.invariant.many ∙ slice_get_read ps (length ps) i p refl c.loop-proctype-test.true c.proctype-item.is)
          c.in_ok-plan.ensures.plan c.loop-proctype.invariant.each k q x s (ap (λ ys. slice_get ys k) (sym c.in_ok-push.ensures.items) ∙ t);
    }

pub returns : goal.returns
returns c = record {
  circles = circles_of c.loop-proctype.found.circle c.args.proctypes.now c.loop-proctype.proctype-index c.loop-proctype-test.false c.loop-proctype.invariant.circle;
  steps = steps_of c.loop-proctype.found.bad_first_point c.args.proctypes.now c.loop-proctype.proctype-index c.loop-proctype-test.false c.loop-proctype.invariant.first_point;
  plans = record {
    many = omega (arith, c.loop-proctype.invariant.many, c.loop-proctype-test.false, c.loop-proctype.auto.proctype-index-end);
    each = c.loop-proctype.invariant.each;
  };
}
