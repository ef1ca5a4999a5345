use Rattle.prepare.proofs.Changing.{unexchanged}
use Rattle.prepare.proofs.laws.nothing_exchanged_is_unchanged.Goals as goal

pub returns : goal.returns
returns c = unexchanged
