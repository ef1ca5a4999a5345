use Rattle.std.proofs.Common.{arith, length-take, List, ◌∙◌, sym, ap, refl}
use Rattle.pml_store.specs.declared.store.FrameExtents.{FrameExtents}
use Rattle.pml_store.specs.Writing.{but_last}
use Rattle.pml_store.specs.Laid.{frames_of}
use Rattle.pml_store.proofs.Frames.{IsLaid-pop, frames_of-pop}
use Rattle.pml_store.proofs.Storing.{contents_is}
use Rattle.pml_store.proofs.store.Store.pop_frame.Goals as goal

pub invariant_of-self : goal.invariant_of-self
invariant_of-self c =
    let laid = rw c.in-Some.ensures.items at c.self.invariant.laid in
    rw c.truncate.ensures.items (record { laid = IsLaid-pop _ _ _ laid; few = omega (arith, c.self.invariant.few, length-take c.in-Some.frame.base c.self.inside.cells.items) })

pub returns-in-Some : goal.returns-in-Some
returns-in-Some c =
    let laid = rw c.in-Some.ensures.items at c.self.invariant.laid in
    let frames = frames_of-pop _ _ _ laid ∙ ap (λ (os : List FrameExtents). but_last (frames_of os c.self.inside.cells.items)) (sym c.in-Some.ensures.items) in
    rw (← c.self.view_is, c.truncate.ensures.items) (contents_is _ _ _ _ _ frames refl)
