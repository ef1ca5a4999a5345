use Rattle.view_json.proofs.Run.{lines_are_the_run}
use Rattle.view_json.proofs.laws.lines_are_the_run.Goals as goal

pub returns : goal.returns
returns c = lines_are_the_run
