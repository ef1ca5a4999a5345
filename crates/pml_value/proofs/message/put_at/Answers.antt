use Rattle.promela_run.specs.Statements.{with_message}
use Rattle.pml_value.proofs.Channels.{changed-ok}
use Rattle.pml_value.proofs.message.put_at.Goals as goal

pub returns-clause-ok : goal.returns-clause-ok
returns-clause-ok c = changed-ok c.put.result c.args.channels.now c.args.at c.index-channels-at.result c.put.new.channel (with_message c.args.order c.args.fields.now) c.requires.there c.put.ensures.ok
