use Rattle.view_text.proofs.Writing.{item_more}
use Rattle.view_json.specs.Shown.{changed_cell}
use Rattle.view_json.proofs.Writing.{chain}
use Rattle.view_json.proofs.changed.each_changed.Goals as goal

pub loop-change-preserved : goal.loop-change-preserved
loop-change-preserved c =
    chain _ _ _ _ _ _ c.loop-change.invariant c.changed_cell.ensures
    (item_more (changed_cell c.args.live.now.state c.args.frame) c.args.changes.now c.loop-change.change-index _ c.loop-change-test.true)
