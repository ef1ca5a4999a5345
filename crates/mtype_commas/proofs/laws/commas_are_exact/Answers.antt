use Rattle.mtype_commas.proofs.Naming.{exact}
use Rattle.mtype_commas.proofs.laws.commas_are_exact.Goals as goal

pub returns : goal.returns
returns c = exact
