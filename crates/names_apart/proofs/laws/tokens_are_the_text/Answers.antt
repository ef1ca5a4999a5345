use Rattle.names_apart.proofs.Fresh.{owns_text}
use Rattle.names_apart.proofs.laws.tokens_are_the_text.Goals as goal

pub returns : goal.returns
returns c = owns_text
