use Rattle.std.proofs.Common.{sym}
use Rattle.pml_store.proofs.Places.{joined_is}
use Rattle.pml_store.proofs.store.Store.cells.Goals as goal

pub returns : goal.returns
returns c =
    let j = joined_is _ _ c.self.invariant.laid in
    rw (← c.self.view_is) (record { value = sym j; few = rw j c.self.invariant.few })
