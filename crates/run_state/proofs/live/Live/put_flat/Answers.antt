use Rattle.std.proofs.Common.{ℕ, ◌<◌, length, subst}
use Rattle.pml_store.specs.Writing.{joined}
use Rattle.flat_code.proofs.Laying.{index-within}
use Rattle.run_state.proofs.live.Live.put_flat.Goals as goal

pub index-at-requires : goal.index-at-requires
index-at-requires c =
    let h = rw (← c.self.view_is) at c.requires.there in
    let w = index-within c.self.inside.started.store.frames h.place h.there in
    rw c.base.ensures (subst (λ (n : ℕ). n < length (joined c.self.inside.started.store.frames)) h.stands w)
