use Rattle.explain_tokens.proofs.Standing.{same_tokens}
use Rattle.explain_tokens.proofs.laws.tokens_are_the_same.Goals as goal

pub returns : goal.returns
returns c = same_tokens
