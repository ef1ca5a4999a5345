use Rattle.view_json.proofs.Writing.{chained}
use Rattle.view_json.proofs.start.heading.Goals as goal

pub returns : goal.returns
returns c =
    chained _ _ _ _ _ c.number.ensures
    (chained _ _ _ _ _ c.key.ensures
    (chained _ _ _ _ _ c.string.ensures
    (chained _ _ _ _ _ c.key-2.ensures
    (chained _ _ _ _ _ c.boolean.ensures (chained _ _ _ _ _ c.proctypes.ensures c.globals.ensures)))))
