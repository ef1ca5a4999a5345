use Rattle.std.proofs.Common.{rules, ◌≡◌, ◌∙◌, sym, subst}
use Rattle.run_start.specs.Starting.{IsDeclared}
use Rattle.run_state.proofs.Creating.{sorts_are}
use Rattle.run_state.proofs.live.Live.sorts.Goals as goal

pub returns-clause-value : goal.returns-clause-value
returns-clause-value c =
    let same : c.as_slice.result.now ≡ c.self.inside.started.sorts.items = search rules in
    rw (← c.self.view_is) (same ∙ c.self.invariant.seated ∙ sym (sorts_are c.self.inside.played c.self.inside.seats.items))

pub returns-clause-declared : goal.returns-clause-declared
returns-clause-declared c =
    rw (← c.self.view_is)
    (subst (IsDeclared c.self.inside.played c.self.inside.started.store.frames)
    (c.self.invariant.seated ∙ sym (sorts_are c.self.inside.played c.self.inside.seats.items)) c.self.invariant.declared)
