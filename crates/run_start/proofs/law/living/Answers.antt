use Rattle.run_start.proofs.Living.{living_are}
use Rattle.run_start.proofs.law.living.Goals as goal

pub returns : goal.returns
returns c = living_are
