use Rattle.view_json.proofs.Writing.{chained}
use Rattle.view_json.proofs.objects.cell_in.Goals as goal

pub returns : goal.returns
returns c = chained _ _ _ _ _ c.path.ensures c.held.ensures
