use Rattle.view_json.proofs.Writing.{chained, behind}
use Rattle.view_json.proofs.lines.front.Goals as goal

pub returns : goal.returns
returns c =
    behind _ _ _ _ c.begin-json.ensures
    (chained _ _ _ _ _ c.chosen.ensures (chained _ _ _ _ _ c.mover.ensures (chained _ _ _ _ _ c.transfer.ensures c.receiver.ensures)))
