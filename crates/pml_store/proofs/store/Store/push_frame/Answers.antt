use Rattle.std.proofs.Common.{arith, ◌≡◌, ◌++◌, ◌∷◌, [], pos, sum, replicate, ◌∙◌, ap, refl, length}
use Rattle.pml_store.specs.declared.store.FrameExtents.{FrameExtents}
use Rattle.pml_store.specs.Laid.{extents_of}
use Rattle.pml_store.proofs.Frames.{kept_push, room_left, frames_of-push, frame_extents_is, grown}
use Rattle.pml_store.proofs.Storing.{contents_is}
use Rattle.pml_store.proofs.store.Store.push_frame.Goals as goal
use Rattle.pml_store.proofs.store.Store.push_frame.Goals.{In-Ok}

-- the new frame and the new cells
made : (c : In-Ok) → (c.push.new.self.items ≡ c.self.inside.frames.items ++ record { base = length c.self.inside.cells.items; extents = extents_of (length c.self.inside.cells.items) c.args.sizes.now } ∷ []) × (c.resize.new.self.items ≡ c.self.inside.cells.items ++ replicate (sum c.args.sizes.now) (pos 0))
made c =
    let n = c.self.inside.cells.ok.0 in
    let b : c.len-base.result ≡ length c.self.inside.cells.items = c.len-base.ensures ∙ n in
    let s : c.in_ok-extents.extents ≡ extents_of (length c.self.inside.cells.items) c.args.sizes.now = c.in_ok-extents.ensures.0 ∙ ap (λ k. extents_of k c.args.sizes.now) b in
    let o : ◌≡◌ {A = FrameExtents} (record { base = c.len-base.result; extents = c.in_ok-extents.extents }) (record { base = length c.self.inside.cells.items; extents = extents_of (length c.self.inside.cells.items) c.args.sizes.now }) = frame_extents_is _ _ _ _ b s in (
      c.in-Ok.ensures.items ∙ ap (λ (x : FrameExtents). c.self.inside.frames.items ++ x ∷ []) o,
      c.in_ok-resize.ensures.items ∙ grown c.self.inside.cells.items _ _ (sum c.args.sizes.now) n (omega (arith, b, c.in_ok-extents.ensures.1, n)),
    )

pub returns-in-Ok-clause-ok : goal.returns-in-Ok-clause-ok
returns-in-Ok-clause-ok c =
    let m = made (goal.at.returns-in-Ok-clause-ok c).In-Ok in
    rw (← c.self.view_is, m.0, m.1) (contents_is _ _ _ _ _ (frames_of-push _ _ _ c.self.invariant.laid) refl)

pub invariant_of-self-in-Ok : goal.invariant_of-self-in-Ok
invariant_of-self-in-Ok c =
    let m = made (goal.at.invariant_of-self-in-Ok c).In-Ok in
    rw (m.0, m.1) (kept_push _ _ c.args.sizes.now _ c.self.invariant (rw (← c.self.view_is) at c.requires))

pub extents_from-requires : goal.extents_from-requires
extents_from-requires c =
    room_left _ _ c.args.sizes.now _ _ c.self.invariant (rw (← c.self.view_is) at c.requires) (c.len-base.ensures ∙ c.self.inside.cells.ok.0) (omega (arith, c.self.ranges))
