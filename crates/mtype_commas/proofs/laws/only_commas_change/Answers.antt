use Rattle.mtype_commas.proofs.Punctuating.{commas_alone}
use Rattle.mtype_commas.proofs.laws.only_commas_change.Goals as goal

pub returns : goal.returns
returns c = commas_alone
