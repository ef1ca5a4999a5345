-- A place among the cells of one vector.
use Rattle.std.proofs.Common.{◌≡◌, ℕ, zero, suc, ◌+◌, ◌<◌, ◌≤◌, List, [], ◌∷◌, ◌++◌, length, get_or, take, drop, map, ℤ, pos, refl, sym, ap, subst, ◌∙◌, arith, append_assoc, append-nil, length-append, length-drop, length-take, drop-drop}
use Rattle.std.proofs.Math.ListN.{get_or-map}
use Rattle.std.proofs.lemmas.List.{length-map, get_or-drop, get_or-take, take-append-drop, drop_all}
use Rattle.promela_process.specs.declared.place.Place.{Place}
use Rattle.pml_store.specs.declared.store.Extent.{Extent}
use Rattle.pml_store.specs.declared.store.FrameExtents.{FrameExtents}
use Rattle.promela_process.specs.Store.{Frame, Cells, frame_at, cells_at, number_at, size_at}
use Rattle.pml_store.specs.Writing.{HasPlace, flat, joined, index_of}
use Rattle.pml_store.specs.Laid.{cells_of, frame_of, frames_of, nowhere, no_frame, frame_extents_at, extent_of, ExtentsLie, extents_end, FramesLie, frames_end, IsLaid}

pub frame_is : (os : List FrameExtents) (cells : List ℤ) (o : ℕ) → frame_at (frames_of os cells) o ≡ frame_of cells (frame_extents_at os o)
frame_is os cells o = get_or-map (frame_of cells) os o no_frame

-- where the cells of a place's variable are
abbrev pub extent_at : List FrameExtents → Place → Extent
extent_at frames p = extent_of frames p.frame p.variable

pub cells_is : (os : List FrameExtents) (cells : List ℤ) (p : Place) → cells_at (frames_of os cells) p ≡ cells_of cells (extent_at os p)
cells_is os cells p =
    ap (λ (f : Frame). get_or f p.variable []) (frame_is os cells p.frame)
    ∙ get_or-map (cells_of cells) (frame_extents_at os p.frame).extents p.variable nowhere

-- what a place that is there has among the extents
pub record Found (os : List FrameExtents) (cells : List ℤ) (p : Place) : Type 0 where
  pub frame : p.frame < length os
  pub variable : p.variable < length (frame_extents_at os p.frame).extents
  pub cell : p.cell < (extent_at os p).size
  pub within : (extent_at os p).start + p.cell < length cells

pub found : (os : List FrameExtents) (cells : List ℤ) (p : Place) → HasPlace (frames_of os cells) p → Found os cells p
found os cells p h =
    let c = rw (cells_is os cells p) at h.cell in
    let e = length-take (extent_at os p).size (drop (extent_at os p).start cells) in
    let d = length-drop (extent_at os p).start cells in
    let v = rw (frame_is os cells p.frame) at h.variable in
    record {
      frame = omega (arith, h.frame, length-map os (frame_of cells));
      variable = omega (arith, v, length-map (frame_extents_at os p.frame).extents (cells_of cells));
      cell = omega arith;
      within = omega arith;
    }

pub number_is : (os : List FrameExtents) (cells : List ℤ) (p : Place) → HasPlace (frames_of os cells) p → number_at (frames_of os cells) p ≡ get_or cells ((extent_at os p).start + p.cell) (pos 0)
number_is os cells p h =
    ap (λ (c : Cells). get_or c p.cell (pos 0)) (cells_is os cells p)
    ∙ get_or-take (extent_at os p).size (drop (extent_at os p).start cells) p.cell (pos 0) (found os cells p h).cell
    ∙ get_or-drop (extent_at os p).start cells p.cell (pos 0)

-- ---- all of them, in order

abbrev frame_flat : List ℤ → FrameExtents → List ℤ
frame_flat cells o = flat (frame_of cells o)

flat_is : (ss : List Extent) (cells : List ℤ) (at : ℕ) → ExtentsLie ss at → flat (map (cells_of cells) ss) ++ drop (extents_end ss at) cells ≡ drop at cells
flat_is [] cells at h = refl
flat_is (s ∷ ss) cells at h =
    rw (append_assoc, flat_is ss cells (at + s.size) h.1, h.0, ← drop-drop s.size at cells) (take-append-drop s.size (drop at cells))

joined_to : (os : List FrameExtents) (cells : List ℤ) (at : ℕ) → FramesLie os at → joined (frames_of os cells) ++ drop (frames_end os at) cells ≡ drop at cells
joined_to [] cells at h = refl
joined_to (o ∷ os) cells at h =
    rw (append_assoc, joined_to os cells (extents_end o.extents at) h.2) (flat_is o.extents cells at h.1)

pub joined_is : (os : List FrameExtents) (cells : List ℤ) → IsLaid os cells → joined (frames_of os cells) ≡ cells
joined_is os cells h =
    let e = joined_to os cells 0 h.lie in
    let d = drop_all (frames_end os 0) cells (omega (arith, h.cover)) in
    sym (append-nil (joined (frames_of os cells))) ∙ ap (λ (x : List ℤ). joined (frames_of os cells) ++ x) (sym d) ∙ e

-- ---- where a place stands among them

pub extents_on : (ss : List Extent) (at : ℕ) → at ≤ extents_end ss at
extents_on [] at = omega arith
extents_on (s ∷ ss) at = let r = extents_on ss (at + s.size) in omega arith

pub frames_on : (os : List FrameExtents) (at : ℕ) → at ≤ frames_end os at
frames_on [] at = omega arith
frames_on (o ∷ os) at = let r = frames_on os (extents_end o.extents at) in let q = extents_on o.extents at in omega arith

length-cells_of : (cells : List ℤ) (s : Extent) → s.start + s.size ≤ length cells → length (cells_of cells s) ≡ s.size
length-cells_of cells s h = let e = length-take s.size (drop s.start cells) in let d = length-drop s.start cells in omega arith

flat_len : (ss : List Extent) (cells : List ℤ) (at : ℕ) → ExtentsLie ss at → extents_end ss at ≤ length cells → length (flat (map (cells_of cells) ss)) + at ≡ extents_end ss at
flat_len [] cells at h l = omega arith
flat_len (s ∷ ss) cells at h l =
    let on = extents_on ss (at + s.size) in
    let st = h.0 in
    let e = length-cells_of cells s (omega arith) in
    let r = flat_len ss cells (at + s.size) h.1 l in
    let a = length-append (cells_of cells s) (flat (map (cells_of cells) ss)) in
    omega arith

flat_to : (ss : List Extent) (cells : List ℤ) (at v : ℕ) → ExtentsLie ss at → extents_end ss at ≤ length cells → v < length ss → length (flat (take v (map (cells_of cells) ss))) + at ≡ (get_or ss v nowhere).start
flat_to [] cells at v h l k = absurd (omega arith)
flat_to (s ∷ ss) cells at zero h l k = let st = h.0 in omega arith
flat_to (s ∷ ss) cells at (suc v) h l k =
    let on = extents_on ss (at + s.size) in
    let st = h.0 in
    let e = length-cells_of cells s (omega arith) in
    let r = flat_to ss cells (at + s.size) v h.1 l (omega arith) in
    let a = length-append (cells_of cells s) (flat (take v (map (cells_of cells) ss))) in
    omega arith

joined_len_to : (os : List FrameExtents) (cells : List ℤ) (at o : ℕ) → FramesLie os at → frames_end os at ≤ length cells → o < length os → length (joined (take o (frames_of os cells))) + at ≡ (frame_extents_at os o).base
joined_len_to [] cells at o h l k = absurd (omega arith)
joined_len_to (w ∷ os) cells at zero h l k = let st = h.0 in omega arith
joined_len_to (w ∷ os) cells at (suc o) h l k =
    let on = frames_on os (extents_end w.extents at) in
    let e = flat_len w.extents cells at h.1 (omega arith) in
    let r = joined_len_to os cells (extents_end w.extents at) o h.2 l (omega arith) in
    let a = length-append (frame_flat cells w) (joined (take o (frames_of os cells))) in
    omega arith

extent_below : (ss : List Extent) (at n v : ℕ) → ExtentsLie ss at → extents_end ss at ≤ n → (get_or ss v nowhere).start + (get_or ss v nowhere).size ≤ n
extent_below [] at n v h l = omega arith
extent_below (s ∷ ss) at n zero h l = let st = h.0 in let on = extents_on ss (at + s.size) in omega arith
extent_below (s ∷ ss) at n (suc v) h l = extent_below ss (at + s.size) n v h.1 l

extent_of_below : (os : List FrameExtents) (at n o v : ℕ) → FramesLie os at → frames_end os at ≤ n → (extent_of os o v).start + (extent_of os o v).size ≤ n
extent_of_below [] at n o v h l = omega arith
extent_of_below (w ∷ os) at n zero v h l = let on = frames_on os (extents_end w.extents at) in extent_below w.extents at n v h.1 (omega arith)
extent_of_below (w ∷ os) at n (suc o) v h l = extent_of_below os (extents_end w.extents at) n o v h.2 l

-- how many cells a variable has, if it is there
pub size_is : (os : List FrameExtents) (cells : List ℤ) (o v : ℕ) → IsLaid os cells → (extent_of os o v).size ≡ size_at (frames_of os cells) o v
size_is os cells o v h =
    let p : Place = record { frame = o; variable = v; cell = 0 } in
    let below = extent_of_below os 0 (length cells) o v h.lie (omega (arith, h.cover)) in
    sym (ap length (cells_is os cells p) ∙ length-cells_of cells (extent_of os o v) below)

pub record Lies (o : FrameExtents) (n : ℕ) : Type 0 where
  pub extents : ExtentsLie o.extents o.base
  pub below : extents_end o.extents o.base ≤ n

frame_lies : (os : List FrameExtents) (at n o : ℕ) → FramesLie os at → frames_end os at ≤ n → o < length os → Lies (frame_extents_at os o) n
frame_lies [] at n o h l k = absurd (omega arith)
frame_lies (w ∷ os) at n zero h l k =
    let on = frames_on os (extents_end w.extents at) in
    record { extents = rw h.0 h.1; below = rw h.0 (omega arith) }
frame_lies (w ∷ os) at n (suc o) h l k = frame_lies os (extents_end w.extents at) n o h.2 l (omega arith)

pub index_is : (os : List FrameExtents) (cells : List ℤ) (p : Place) → IsLaid os cells → HasPlace (frames_of os cells) p → index_of (frames_of os cells) p ≡ (extent_at os p).start + p.cell
index_is os cells p h there =
    let f = found os cells p there in
    let a = joined_len_to os cells 0 p.frame h.lie (omega (arith, h.cover)) f.frame in
    let l = frame_lies os 0 (length cells) p.frame h.lie (omega (arith, h.cover)) f.frame in
    let b = flat_to (frame_extents_at os p.frame).extents cells (frame_extents_at os p.frame).base p.variable l.extents l.below f.variable in
    let e = ap (λ (x : Frame). length (flat (take p.variable x))) (frame_is os cells p.frame) in
    omega arith

-- all that is known of an index
pub record IsIndex (frames : List Frame) (p : Place) (i : ℕ) : Type 0 where
  pub value : i ≡ index_of frames p
  pub within : i < length (joined frames)
  pub holds : get_or (joined frames) i (pos 0) ≡ number_at frames p

pub is_index : (os : List FrameExtents) (cells : List ℤ) (p : Place) → IsLaid os cells → HasPlace (frames_of os cells) p → IsIndex (frames_of os cells) p ((extent_at os p).start + p.cell)
is_index os cells p h there =
    let f = found os cells p there in
    let j = ap length (joined_is os cells h) in
    record {
      value = sym (index_is os cells p h there);
      within = omega (arith, f.within, j);
      holds = ap (λ (x : List ℤ). get_or x ((extent_at os p).start + p.cell) (pos 0)) (joined_is os cells h) ∙ sym (number_is os cells p there);
    }

-- an index at which a place stands
pub at_index : (os : List FrameExtents) (cells : List ℤ) (p : Place) (i : ℕ) → IsLaid os cells → HasPlace (frames_of os cells) p → index_of (frames_of os cells) p ≡ i → IsIndex (frames_of os cells) p i
at_index os cells p i h there e = subst (IsIndex (frames_of os cells) p) (sym (index_is os cells p h there) ∙ e) (is_index os cells p h there)

-- where a frame begins
pub base_is : (os : List FrameExtents) (cells : List ℤ) (o : ℕ) → IsLaid os cells → o < length os → (frame_extents_at os o).base ≡ length (joined (take o (frames_of os cells)))
base_is os cells o h l = let e = joined_len_to os cells 0 o h.lie (omega (arith, h.cover)) l in omega (arith, e)
