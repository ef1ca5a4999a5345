use Rattle.view_json.proofs.Writing.{chained}
use Rattle.view_json.proofs.lines.stuck_place.Goals as goal

pub returns : goal.returns
returns c =
    chained _ _ _ _ _ c.begin_object.ensures
    (chained _ _ _ _ _ (chained _ _ _ _ _ c.number.ensures (chained _ _ _ _ _ c.text.ensures c.number-2.ensures)) c.end_object.ensures)
