use Rattle.prepare.proofs.Tokens.{tokens_are}
use Rattle.prepare.proofs.laws.tokens_are_those_cut.Goals as goal

pub returns : goal.returns
returns c = tokens_are
