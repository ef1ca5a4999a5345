use Rattle.prepare_laws.proofs.LineEnds.{exact}
use Rattle.prepare_laws.proofs.separators_are_exact.Goals as goal

pub returns : goal.returns
returns c = exact
