use Rattle.pml_store.proofs.Places.{size_is}
use Rattle.pml_store.proofs.store.Store.size.Goals as goal

pub returns : goal.returns
returns c = rw (← c.self.view_is, c.find_extent.ensures, c.as_slice.ensures.value) (size_is _ _ c.args.frame c.args.variable c.self.invariant.laid)
