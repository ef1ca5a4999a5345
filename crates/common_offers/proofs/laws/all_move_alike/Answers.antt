use Rattle.common_offers.proofs.Moving.{all_move_alike as lemma}
use Rattle.common_offers.proofs.laws.all_move_alike.Goals as goal

pub returns : goal.returns
returns c = lemma
