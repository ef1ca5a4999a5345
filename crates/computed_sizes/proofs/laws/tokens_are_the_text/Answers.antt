use Rattle.computed_sizes.proofs.Sizing.{owns_text}
use Rattle.computed_sizes.proofs.laws.tokens_are_the_text.Goals as goal

pub returns : goal.returns
returns c = owns_text
