use Rattle.view_json.proofs.Writing.{behind}
use Rattle.view_json.proofs.start.start.Goals as goal

pub returns : goal.returns
returns c = behind _ _ _ _ c.begin-json.ensures c.heading.ensures
