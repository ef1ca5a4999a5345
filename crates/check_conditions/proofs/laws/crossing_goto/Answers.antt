use Rattle.check_conditions.proofs.Crossing.{crossing_goto}
use Rattle.check_conditions.proofs.laws.crossing_goto.Goals as goal

pub returns : goal.returns
returns c = crossing_goto
