use Rattle.common_offers.proofs.Silent.{all_are_deaf as lemma}
use Rattle.common_offers.proofs.laws.all_are_deaf.Goals as goal

pub returns : goal.returns
returns c = lemma
