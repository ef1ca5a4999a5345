use Rattle.std.proofs.Common.{rules}
use Rattle.run_search.proofs.demand.Demand.or_action.Goals as goal

pub returns-in-Receive-clause-other : goal.returns-in-Receive-clause-other
returns-in-Receive-clause-other c = λ m d.
    let e = c.or_receive.ensures.other c.in-Receive.field-1 c.in-Receive.field-2 m d in
    search (rules, e)
