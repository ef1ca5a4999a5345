use Rattle.std.proofs.Common.{rules, ◌≡◌, length}
use Rattle.run_state.proofs.Holding.{held_still, received_stays, received_bounded, received_lives}
use Rattle.run_state.proofs.live.Live.take_message.Goals as goal
use Rattle.run_state.proofs.live.Live.take_message.Goals.{in-Ok, in-Err}

pub invariant_of-self : goal.invariant_of-self
invariant_of-self c =
    let same : c.as_mut_slice-channels.result.now ≡ c.self.inside.started.channels.items = search rules in
    let count : c.self.inside.started.channels.len ≡ length c.self.inside.started.channels.items = search rules in
    held_still c.self.inside.played c.self.inside.started.store c.take_from.new.store c.self.inside.started.channels.items _
    c.self.inside.started.sorts.items c.self.inside.seats.items c.self.invariant (received_stays c.take_from.result _ c.self.inside.started.store c.take_from.new.store _ _ c.take_from.ensures.ok c.take_from.ensures.err)
    (received_bounded c.self.inside.played c.self.inside.started.channels.items c.as_mut_slice-channels.result.now _ c.self.inside.started.channels.len count same c.self.invariant.bounded.live c.take_from.result c.args.at c.args.search c.args.removal c.args.sought.now _ _ c.take_from.ensures.ok c.take_from.ensures.err)

pub returns-clause-value : goal.returns-clause-value
returns-clause-value c =
    let same : c.as_mut_slice-channels.result.now ≡ c.self.inside.started.channels.items = search rules in
    let count : c.self.inside.started.channels.len ≡ length c.self.inside.started.channels.items = search rules in
    elim c.match-take_from.branch [
      | in-Ok w ↦ rw w.result-is (rw (← c.self.view_is) (received_lives c.self.inside.played c.self.inside.started.store c.self.inside.started.channels.items c.self.inside.seats.items c.self.inside.holder c.self.inside.lossy
          c.self.inside.started.channels.len c.args.at c.args.search c.args.removal c.args.sought.now c.as_mut_slice-channels.result.now _ c.take_from.new.store count same w.in-Ok.ensures.ok))
      | in-Err w ↦ rw w.result-is tt
    ]
