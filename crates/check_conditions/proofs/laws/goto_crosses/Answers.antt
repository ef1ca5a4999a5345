use Rattle.check_conditions.proofs.Crossing.{goto_crosses}
use Rattle.check_conditions.proofs.laws.goto_crosses.Goals as goal

pub returns : goal.returns
returns c = goto_crosses
