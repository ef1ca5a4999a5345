use Rattle.view_json.proofs.Writing.{chained}
use Rattle.view_json.proofs.lines.details.Goals as goal

pub returns : goal.returns
returns c = (_, _, chained _ _ _ _ _ c.detail.ensures c.detail-2.ensures)
