use Rattle.std.proofs.Common.{subst, IfSome, Option}
use Rattle.names_apart.specs.declared.apart.Division.{Division}
use Rattle.names_apart.specs.Apart.{IsApart, same}
use Rattle.names_apart.proofs.Dividing.{further, carried}
use Rattle.names_apart.proofs.apart.divide_names.Goals as goal

pub loop-at-init : goal.loop-at-init
loop-at-init c = same

pub loop-at-preserved-in-Some : goal.loop-at-preserved-in-Some
loop-at-preserved-in-Some c =
    let joint = c.deref-in-loop-at.result.now in
    let text = c.deref-in-loop-at-2.result.now in
    let d = subst (λ (o : Option Division). IfSome o (λ d. IsApart joint text d.text.items)) c.in-Some.is c.in_ok-division.ensures.apart in
    further c.loop-at.invariant (carried c.deref-in-loop-at.ensures.value c.deref-in-loop-at-2.ensures.value d)
