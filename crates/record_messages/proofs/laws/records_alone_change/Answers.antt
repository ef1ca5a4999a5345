use Rattle.record_messages.proofs.Recording.{records_alone}
use Rattle.record_messages.proofs.laws.records_alone_change.Goals as goal

pub returns : goal.returns
returns c = records_alone
