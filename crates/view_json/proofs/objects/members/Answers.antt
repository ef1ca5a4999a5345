use Rattle.view_text.proofs.Writing.{each_more}
use Rattle.view_json.specs.Objects.{variable_cells}
use Rattle.view_json.proofs.Writing.{chain}
use Rattle.view_json.proofs.objects.members.Goals as goal

pub loop-variable-preserved : goal.loop-variable-preserved
loop-variable-preserved c =
    chain _ _ _ _ _ _ c.loop-variable.invariant c.cells_of.ensures (each_more (variable_cells c.args.live.now.state c.args.frame) c.loop-variable.variable)
