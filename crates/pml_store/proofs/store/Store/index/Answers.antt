use Rattle.pml_store.proofs.Places.{is_index}
use Rattle.pml_store.proofs.store.Store.index.Goals as goal

pub returns : goal.returns
returns c =
    let there = rw (← c.self.view_is) at c.requires in
    let e = is_index _ _ c.args.place c.self.invariant.laid there in
    rw (← c.self.view_is, c.find_extent-extent.ensures, c.as_slice.ensures.value) (record { value = e.value; within = e.within; holds = e.holds })
