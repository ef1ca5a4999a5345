use Rattle.prepare_laws.proofs.Lists.{lists_alone}
use Rattle.prepare_laws.proofs.lists_alone_change.Goals as goal

pub returns : goal.returns
returns c = lists_alone
