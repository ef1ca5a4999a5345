use Rattle.run_state.proofs.Holding.{held_still, set_stays}
use Rattle.run_state.proofs.live.Live.put.Goals as goal

pub invariant_of-self : goal.invariant_of-self
invariant_of-self c =
    held_still c.self.inside.played c.self.inside.started.store c.set.new.self c.self.inside.started.channels.items c.self.inside.started.channels.items
    c.self.inside.started.sorts.items c.self.inside.seats.items c.self.invariant (set_stays c.set.result c.self.inside.started.store c.set.new.self _ _ c.set.ensures.ok c.set.ensures.err) c.self.invariant.bounded.live
