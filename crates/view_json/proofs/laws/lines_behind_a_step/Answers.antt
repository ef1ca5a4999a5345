use Rattle.view_json.proofs.Run.{lines_behind_a_step}
use Rattle.view_json.proofs.laws.lines_behind_a_step.Goals as goal

pub returns : goal.returns
returns c = lines_behind_a_step
