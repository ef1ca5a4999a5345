use Rattle.std.proofs.Common.{◌≡◌, ◌∙◌, List, ap, sym, subst}
use Rattle.pml_control.specs.declared.ends.Ending.{Ending}
use Rattle.pml_control.specs.Ends.{AreEnds}
use Rattle.pml_control.specs.Graph.{posts_of, nexts}
use Rattle.explain_control.specs.declared.site.PostSite.{PostSite}
use Rattle.explain_control.specs.Blamed.{site_at, is_else}
use Rattle.explain_control.proofs.Same.{none_bad, blamed, none_of, some_of}
use Rattle.explain_control.proofs.body.first_point_of.Goals as goal

pub returns-in_default : goal.returns-in_default
returns-in_default c =
    let are : AreEnds (nexts (posts_of c.args.body.now)) c.ends.result.now = subst (λ (es : List Ending). AreEnds (nexts (posts_of c.args.body.now)) es) (sym c.ends.ensures) c.in_ok-plan.ensures.plan.ends in
    none_bad c.args.body.now c.deref.result.now c.ends.result.now (c.deref.ensures.value ∙ c.in_ok-sites.ensures) are (none_of _ _ _ c.in_default.is c.first_bad.ensures)

pub returns : goal.returns
returns c =
    let are : AreEnds (nexts (posts_of c.args.body.now)) c.ends.result.now = subst (λ (es : List Ending). AreEnds (nexts (posts_of c.args.body.now)) es) (sym c.ends.ensures) c.in_ok-plan.ensures.plan.ends in
    let bad = some_of _ _ _ _ c.in-Some.is c.first_bad.ensures in
    let two : c.deref-2.result.now ≡ c.deref.result.now = c.deref-2.ensures.value ∙ sym c.deref.ensures.value in
    let three : c.deref-3.result.now ≡ c.deref.result.now = c.deref-3.ensures.value ∙ sym c.deref.ensures.value in
    let four : c.deref-4.result.now ≡ c.deref.result.now = c.deref-4.ensures.value ∙ sym c.deref.ensures.value in
    blamed c.args.body.now c.deref.result.now c.ends.result.now (c.deref.ensures.value ∙ c.in_ok-sites.ensures) are c.in-Some.bad.step _ bad.0
    (c.offset_at.ensures ∙ ap (λ (ss : List PostSite). (site_at ss c.in-Some.bad.step).offset) two)
    c.in-Some.bad.first c.in-Some.bad.point bad.1
    (c.is_else.ensures ∙ ap (λ (ss : List PostSite). is_else (site_at ss c.in-Some.bad.point).matter) four)
    (λ t. c.offender.ensures (ap (λ (ss : List PostSite). is_else (site_at ss c.in-Some.bad.point).matter) three ∙ t) ∙ ap (λ (ss : List PostSite). (site_at ss c.in-Some.bad.point).offset) three)
