use Rattle.std.proofs.Common.{subst, ◌∙◌, IfSome, Option, ℕ}
use Rattle.std.specs.Global.{Vec}
use Rattle.names_apart.specs.Apart.{IsStep}
use Rattle.names_apart.proofs.Dividing.{one_division}
use Rattle.names_apart.proofs.apart.next_division.Goals as goal

pub returns-in-Some-clause-apart : goal.returns-in-Some-clause-apart
returns-in-Some-clause-apart c =
    let d = subst (λ (o : Option (Vec ℕ)). IfSome o (λ v. IsStep c.args.joint.now c.deref.result.now v.items)) c.in-Some.is c.in_ok-text.ensures in
    one_division (c.deref.ensures.value ∙ c.in_ok-stretches.ensures) d
