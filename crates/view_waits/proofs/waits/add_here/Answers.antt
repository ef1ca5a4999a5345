use Rattle.view_waits.proofs.Adding.{none_here}
use Rattle.view_waits.proofs.waits.add_here.Goals as goal

pub returns : goal.returns
returns c = none_here c.args.live.now.state c.args.timeout c.args.process c.seats-seats.result.now c.seats-seats.ensures c.if-process-seats.false c.args.waits.now.items
