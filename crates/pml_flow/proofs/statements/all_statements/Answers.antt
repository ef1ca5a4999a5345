use Rattle.std.proofs.Common.{◌++◌, ◌∙◌, None, ap}
use Rattle.pml_flow.specs.Inside.{inner_arm}
use Rattle.pml_flow.proofs.Stating.{all_stated}
use Rattle.pml_flow.proofs.statements.all_statements.Goals as goal

pub returns : goal.returns
returns c =
    c.in_ok-add_arm.ensures ∙ ap (λ r. r ++ inner_arm None c.args.body.now) c.new-table.ensures ∙ all_stated c.args.body.now
