use Rattle.std.proofs.Common.{◌≡◌, Option, Some, IfSome, subst}
use Rattle.explain_cause.specs.declared.cause.Segment.{Segment}
use Rattle.explain_find.specs.Told.{IsTold}
use Rattle.explain.specs.Request.{asked_for}
use Rattle.explain.proofs.Telling.{at_told, alone}
use Rattle.explain.proofs.explain_beside.Goals as goal

pub returns-in-Some : goal.returns-in-Some
returns-in-Some c =
    let a = c.in_ok-place.place-is in
    let b = c.in-Some.is in
    let here : c.in_ok-place.field-0.place ≡ Some c.in-Some.place = cc in
    let told : IfSome (Some c.in-Some.place) (IsTold c.args.text.now c.args.refusal) =
    subst (λ (o : Option Segment). IfSome o (IsTold c.args.text.now c.args.refusal)) here c.in_ok-place.ensures in
    at_told (asked_for c.args.name.now c.args.text.now c.args.source) c.args.refusal c.in-Some.place c.as_str.result.now c.told_at.result told c.told_at.ensures

pub returns : goal.returns
returns c =
    alone (asked_for c.args.name.now c.args.text.now c.args.source) c.args.refusal c.as_str-in-None.result.now c.told_alone.result c.told_alone.ensures
