use Rattle.view_text.proofs.Writing.{each_more}
use Rattle.view_cells.specs.Cells.{place}
use Rattle.view_json.specs.Objects.{cell}
use Rattle.view_json.proofs.Writing.{chain}
use Rattle.view_json.proofs.objects.cells_of.Goals as goal

pub loop-at-preserved : goal.loop-at-preserved
loop-at-preserved c =
    chain _ _ _ _ _ _ c.loop-at.invariant c.cell_in.ensures
    (each_more (λ at. cell c.args.live.now.state (place c.args.frame c.args.variable at)) c.loop-at.at)
