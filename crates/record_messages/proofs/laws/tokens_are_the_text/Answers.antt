use Rattle.record_messages.proofs.Recording.{owns_text}
use Rattle.record_messages.proofs.laws.tokens_are_the_text.Goals as goal

pub returns : goal.returns
returns c = owns_text
