use Rattle.explain_tokens.proofs.Standing.{stand_there}
use Rattle.explain_tokens.proofs.laws.tokens_stand_at_their_places.Goals as goal

pub returns : goal.returns
returns c = stand_there
