use Rattle.std.proofs.Common.{arith, ap, ◌∙◌, ◌<◌, length}
use Rattle.std.proofs.lemmas.List.{get_or_default, length-map}
use Rattle.pml_store.specs.declared.store.FrameExtents.{FrameExtents}
use Rattle.pml_store.specs.Laid.{frame_of}
use Rattle.pml_store.proofs.Places.{base_is}
use Rattle.pml_store.proofs.store.Store.base.Goals as goal

pub returns : goal.returns
returns c =
    let r = rw (← c.self.view_is) at c.requires in
    let m = length-map c.self.inside.frames.items (frame_of c.self.inside.cells.items) in
    let l : c.args.frame < length c.self.inside.frames.items = omega (arith, r, m) in
    rw (← c.self.view_is) (ap (λ (o : FrameExtents). o.base) (c.index.ensures ∙ get_or_default _ _ _ _ l) ∙ base_is _ _ _ c.self.invariant.laid l)
