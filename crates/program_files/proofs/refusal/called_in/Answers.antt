use Rattle.std.proofs.Common.{◌≡◌, Option, Some, IfSome, subst}
use Rattle.explain_cause.specs.declared.cause.Segment.{Segment}
use Rattle.explain_find.specs.Told.{IsTold}
use Rattle.program_files.proofs.Calling.{ok_called}
use Rattle.program_files.proofs.refusal.called_in.Goals as goal

pub returns-in-Some : goal.returns-in-Some
returns-in-Some c =
    let a = c.in_ok-place.place-is in
    let b = c.in-Some.is in
    let here : c.in_ok-place.field-0.place ≡ Some c.in-Some.place = cc in
    let told : IfSome (Some c.in-Some.place) (IsTold c.args.text.now c.args.refusal) =
    subst (λ (o : Option Segment). IfSome o (IsTold c.args.text.now c.args.refusal)) here c.in_ok-place.ensures in
    ok_called c.args.origin.now c.args.text.now c.args.refusal c.in-Some.place c.called_at.result told c.called_at.ensures
