use Rattle.std.proofs.Common.{rules}
use Rattle.run_state.proofs.Holding.{held_still, all_stay_or_some, all_lead}
use Rattle.run_state.proofs.live.Live.put_all.Goals.{in-Ok, in-Err}
use Rattle.run_state.proofs.live.Live.put_all.Goals as goal

pub invariant_of-self : goal.invariant_of-self
invariant_of-self c =
    let old = c.self.inside.started in
    held_still c.self.inside.played old.store c.store_all.new.store old.channels.items old.channels.items old.sorts.items c.self.inside.seats.items c.self.invariant
    (all_stay_or_some c.store_all.result old.store c.store_all.new.store c.args.numbers.now c.store_all.ensures.ok c.store_all.ensures.err) c.self.invariant.bounded.live

pub returns-clause-value : goal.returns-clause-value
returns-clause-value c =
    let old = c.self.inside.started in
    rw (← c.self.view_is)
    (elim c.match-store_all.branch [
      | in-Ok w ↦
          rw w.result-is
          (all_lead c.self.inside.played old.channels.items old.channels.items c.self.inside.seats.items c.self.inside.holder c.self.inside.lossy old.store c.store_all.new.store c.args.numbers.now (search rules))
      | in-Err w ↦ rw w.result-is tt
    ])
