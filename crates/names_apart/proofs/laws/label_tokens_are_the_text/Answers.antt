use Rattle.names_apart.proofs.Fresh.{labels_own_text}
use Rattle.names_apart.proofs.laws.label_tokens_are_the_text.Goals as goal

pub returns : goal.returns
returns c = labels_own_text
