use Rattle.std.proofs.Common.{rules, ◌<◌, ◌∙◌, sym, length}
use Rattle.run_state.proofs.Going.{same_sorts, seat_gone}
use Rattle.run_state.proofs.live.Live.go_to.Goals as goal

pub invariant_of-self : goal.invariant_of-self
invariant_of-self c = record {
  declared = c.self.invariant.declared;
  seated = c.self.invariant.seated ∙ sym (same_sorts c.self.inside.seats.items c.args.process c.args.node c.index_mut.result.now c.index_mut.result.now c.index_mut.ensures.value);
  bounded = c.self.invariant.bounded;
}

pub returns-then-process-len : goal.returns-then-process-len
returns-then-process-len c =
    let l : c.args.process < length c.self.inside.seats.items = search rules in
    rw (← c.self.view_is)
    (seat_gone c.self.inside.played c.self.inside.started.store c.self.inside.started.channels.items c.self.inside.seats.items c.self.inside.holder c.self.inside.lossy c.args.process c.args.node c.index_mut.result.now c.index_mut.result.now l
    c.index_mut.ensures.value)
