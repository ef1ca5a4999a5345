use Rattle.std.proofs.Common.{◌∙◌, ap}
use Rattle.pml_flow.specs.Arms.{arm}
use Rattle.pml_flow.proofs.Parting.{arm_read}
use Rattle.pml_flow.proofs.arms.arm_of.Goals as goal

pub returns : goal.returns
returns g c =
    c.arm.ensures ∙ ap (λ n. arm c.args.all.now c.args.bounds.now n) c.number_of.ensures ∙ arm_read c.args.all.now c.args.bounds.now c.args.numbers.now c.args.position
