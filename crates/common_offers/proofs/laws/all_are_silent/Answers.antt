use Rattle.common_offers.proofs.Silent.{all_are_silent as lemma}
use Rattle.common_offers.proofs.laws.all_are_silent.Goals as goal

pub returns : goal.returns
returns c = lemma
