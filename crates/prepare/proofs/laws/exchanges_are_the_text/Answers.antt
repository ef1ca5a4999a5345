use Rattle.prepare.proofs.Changing.{owns_text}
use Rattle.prepare.proofs.laws.exchanges_are_the_text.Goals as goal

pub returns : goal.returns
returns c = owns_text
