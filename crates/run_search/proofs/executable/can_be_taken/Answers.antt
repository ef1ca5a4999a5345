use Rattle.std.proofs.Common.{rules}
use Rattle.run_search.proofs.executable.can_be_taken.Goals as goal

pub returns-in-Send : goal.returns-in-Send
returns-in-Send c = let e = c.can_send_to.ensures c.in-Send.field-1 in search (rules, e)

pub returns-in-Receive : goal.returns-in-Receive
returns-in-Receive c = let e = c.can_receive_from.ensures c.args.lossy c.args.in_d_step c.in-Receive.field-2 in search (rules, e)
