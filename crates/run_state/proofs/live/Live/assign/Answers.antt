use Rattle.std.proofs.Common.{ap, Some}
use Rattle.promela_process.specs.Expressions.{Reading}
use Rattle.pml_store.proofs.Back.{has_cell}
use Rattle.run_state.proofs.Holding.{held_still, set_stays, one_in_same}
use Rattle.run_state.proofs.live.Live.assign.Goals as goal

pub invariant_of-self : goal.invariant_of-self
invariant_of-self c =
    held_still c.self.inside.played c.self.inside.started.store c.set.new.self c.self.inside.started.channels.items c.self.inside.started.channels.items
    c.self.inside.started.sorts.items c.self.inside.seats.items c.self.invariant (set_stays c.set.result c.self.inside.started.store c.set.new.self _ _ c.set.ensures.ok c.set.ensures.err) c.self.invariant.bounded.live

pub set-requires : goal.set-requires
set-requires c =
    has_cell c.self.inside.started.store.frames c.in-Ok.goes.place
    (one_in_same c.view.result.store.now.frames c.self.inside.started.store.frames (Some c.in-Ok.goes) (ap (λ (r : Reading). r.cells) (rw (← c.self.view_is) at c.view.ensures.reads)) c.in-Ok.ensures.there)
