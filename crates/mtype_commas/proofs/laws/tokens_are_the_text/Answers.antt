use Rattle.mtype_commas.proofs.Punctuating.{owns_text}
use Rattle.mtype_commas.proofs.laws.tokens_are_the_text.Goals as goal

pub returns : goal.returns
returns c = owns_text
