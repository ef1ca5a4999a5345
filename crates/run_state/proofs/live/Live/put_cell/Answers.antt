use Rattle.run_state.proofs.Holding.{held_still}
use Rattle.run_state.proofs.Fitting.{set_at_stays}
use Rattle.run_state.proofs.live.Live.put_cell.Goals as goal

pub invariant_of-self : goal.invariant_of-self
invariant_of-self c =
    let h = rw (← c.self.view_is) at c.requires in
    held_still c.self.inside.played c.self.inside.started.store c.set_cell.new.self c.self.inside.started.channels.items c.self.inside.started.channels.items
    c.self.inside.started.sorts.items c.self.inside.seats.items c.self.invariant (set_at_stays c.set_cell.result c.self.inside.started.store c.set_cell.new.self c.args.at _ h c.set_cell.ensures.ok c.set_cell.ensures.err) c.self.invariant.bounded.live
