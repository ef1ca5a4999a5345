use Rattle.std.proofs.Common.{sym}
use Rattle.pml_channel.proofs.Keeping.{length-messages}
use Rattle.pml_channel.proofs.channel.Channel.len.Goals as goal

pub returns-clause-value : goal.returns-clause-value
returns-clause-value c = rw (← c.self.view_is) (sym (length-messages _ _ _))

pub returns-clause-few : goal.returns-clause-few
returns-clause-few c = rw (← c.self.view_is, length-messages) c.self.invariant.few
