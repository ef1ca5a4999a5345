use Rattle.listed_values.proofs.Valuing.{owns_text}
use Rattle.listed_values.proofs.laws.tokens_are_the_text.Goals as goal

pub returns : goal.returns
returns c = owns_text
