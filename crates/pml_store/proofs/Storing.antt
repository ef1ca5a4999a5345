-- A number stored in one vector changes one place.
use Rattle.std.proofs.Common.{◌≡◌, ℕ, zero, suc, ◌+◌, ◌-◌, ◌<◌, ◌≤◌, List, [], ◌∷◌, ◌++◌, length, get_or, take, drop, set, map, ℤ, refl, sym, ap, ◌∙◌, arith}
use Rattle.std.proofs.lemmas.List.{drop-set-lt, drop-set-add, take-set-le}
use Rattle.std.proofs.Math.Seq.{take-set-lt}
use Rattle.promela_process.specs.declared.place.Place.{Place}
use Rattle.pml_store.specs.declared.store.Extent.{Extent}
use Rattle.pml_store.specs.declared.store.FrameExtents.{FrameExtents}
use Rattle.promela_process.specs.Store.{Frame, Cells, frame_at, with_number}
use Rattle.pml_store.specs.Writing.{Contents, HasPlace}
use Rattle.pml_store.specs.Laid.{cells_of, frame_of, frames_of, nowhere, frame_extents_at, ExtentsLie, extents_end, FramesLie, IsLaid}
use Rattle.pml_store.proofs.Places.{extent_at, extents_on, frame_is, cells_is, found}

extent_in : (ss : List Extent) (at v : ℕ) → ExtentsLie ss at → v < length ss → (at ≤ (get_or ss v nowhere).start) × ((get_or ss v nowhere).start + (get_or ss v nowhere).size ≤ extents_end ss at)
extent_in [] at v h l = absurd (omega arith)
extent_in (s ∷ ss) at zero h l = let e = h.0 in let on = extents_on ss (at + s.size) in (omega arith, omega arith)
extent_in (s ∷ ss) at (suc v) h l = let e = h.0 in let r = extent_in ss (at + s.size) v h.1 (omega arith) in (omega arith, r.1)

frame_extent_in : (os : List FrameExtents) (at o v : ℕ) → FramesLie os at → o < length os → v < length (frame_extents_at os o).extents → at ≤ (get_or (frame_extents_at os o).extents v nowhere).start
frame_extent_in [] at o v h l m = absurd (omega arith)
frame_extent_in (w ∷ os) at zero v h l m = (extent_in w.extents at v h.1 m).0
frame_extent_in (w ∷ os) at (suc o) v h l m =
    let on = extents_on w.extents at in let r = frame_extent_in os (extents_end w.extents at) o v h.2 (omega arith) m in omega arith

module _ (cells : List ℤ) where
  after_it : (s : Extent) (j : ℕ) (x : ℤ) → j < s.start → cells_of (set cells j x) s ≡ cells_of cells s
  after_it s j x h = ap (take s.size) (drop-set-lt s.start cells j x h)

  before_it : (s : Extent) (j : ℕ) (x : ℤ) → s.start + s.size ≤ j → cells_of (set cells j x) s ≡ cells_of cells s
  before_it s j x h =
      let e : s.start + (j - s.start) ≡ j = omega arith in
      ap (λ (n : ℕ). take s.size (drop s.start (set cells n x))) (sym e)
      ∙ ap (take s.size) (drop-set-add s.start cells (j - s.start) x)
      ∙ take-set-le s.size (drop s.start cells) (j - s.start) x (omega arith)

  in_it : (s : Extent) (k : ℕ) (x : ℤ) → k < s.size → cells_of (set cells (s.start + k) x) s ≡ set (cells_of cells s) k x
  in_it s k x h = ap (take s.size) (drop-set-add s.start cells k x) ∙ take-set-lt s.size (drop s.start cells) k x h

  both : {A : Type 0} (x y : A) (xs ys : List A) → x ≡ y → xs ≡ ys → x ∷ xs ≡ y ∷ ys
  both x y xs ys e f = ap (λ z. z ∷ xs) e ∙ ap (λ zs. y ∷ zs) f

  extents_after : (ss : List Extent) (at j : ℕ) (x : ℤ) → ExtentsLie ss at → j < at → map (cells_of (set cells j x)) ss ≡ map (cells_of cells) ss
  extents_after [] at j x h l = refl
  extents_after (s ∷ ss) at j x h l = let e = h.0 in both _ _ _ _ (after_it s j x (omega arith)) (extents_after ss (at + s.size) j x h.1 (omega arith))

  extents_before : (ss : List Extent) (at j : ℕ) (x : ℤ) → ExtentsLie ss at → extents_end ss at ≤ j → map (cells_of (set cells j x)) ss ≡ map (cells_of cells) ss
  extents_before [] at j x h l = refl
  extents_before (s ∷ ss) at j x h l =
      let e = h.0 in let on = extents_on ss (at + s.size) in
      both _ _ _ _ (before_it s j x (omega arith)) (extents_before ss (at + s.size) j x h.1 l)

  frames_after : (os : List FrameExtents) (at j : ℕ) (x : ℤ) → FramesLie os at → j < at → frames_of os (set cells j x) ≡ frames_of os cells
  frames_after [] at j x h l = refl
  frames_after (o ∷ os) at j x h l =
      let on = extents_on o.extents at in
      both _ _ _ _ (extents_after o.extents at j x h.1 l) (frames_after os (extents_end o.extents at) j x h.2 (omega arith))

  extents_set : (ss : List Extent) (at v k : ℕ) (x : ℤ) → ExtentsLie ss at → v < length ss → k < (get_or ss v nowhere).size → map (cells_of (set cells ((get_or ss v nowhere).start + k) x)) ss ≡ set (map (cells_of cells) ss) v (set (cells_of cells (get_or ss v nowhere)) k x)
  extents_set [] at v k x h l b = absurd (omega arith)
  extents_set (s ∷ ss) at zero k x h l b =
      let e = h.0 in
      both _ _ _ _ (in_it s k x b) (extents_after ss (at + s.size) (s.start + k) x h.1 (omega arith))
  extents_set (s ∷ ss) at (suc v) k x h l b =
      let e = h.0 in let i = extent_in ss (at + s.size) v h.1 (omega arith) in
      both _ _ _ _ (before_it s ((get_or ss v nowhere).start + k) x (omega arith)) (extents_set ss (at + s.size) v k x h.1 (omega arith) b)

  frames_set : (os : List FrameExtents) (at o v k : ℕ) (x : ℤ) → FramesLie os at → o < length os → v < length (frame_extents_at os o).extents → k < (get_or (frame_extents_at os o).extents v nowhere).size →
      frames_of os (set cells ((get_or (frame_extents_at os o).extents v nowhere).start + k) x) ≡ set (frames_of os cells) o (set (frame_of cells (frame_extents_at os o)) v (set (cells_of cells (get_or (frame_extents_at os o).extents v nowhere)) k x))
  frames_set [] at o v k x h l m b = absurd (omega arith)
  frames_set (w ∷ os) at zero v k x h l m b =
      let i = extent_in w.extents at v h.1 m in
      both _ _ _ _ (extents_set w.extents at v k x h.1 m b) (frames_after os (extents_end w.extents at) ((get_or w.extents v nowhere).start + k) x h.2 (omega arith))
  frames_set (w ∷ os) at (suc o) v k x h l m b =
      let i = frame_extent_in os (extents_end w.extents at) o v h.2 (omega arith) m in
      both _ _ _ _ (extents_before w.extents at ((get_or (frame_extents_at os o).extents v nowhere).start + k) x h.1 (omega arith)) (frames_set os (extents_end w.extents at) o v k x h.2 (omega arith) m b)

pub frames_of-set : (os : List FrameExtents) (cells : List ℤ) (p : Place) (x : ℤ) → IsLaid os cells → HasPlace (frames_of os cells) p → frames_of os (set cells ((extent_at os p).start + p.cell) x) ≡ with_number (frames_of os cells) p x
frames_of-set os cells p x h there =
    let f = found os cells p there in
    frames_set cells os 0 p.frame p.variable p.cell x h.lie f.frame f.variable f.cell
    ∙ ap (λ (w : Frame). set (frames_of os cells) p.frame (set w p.variable (set (cells_of cells (extent_at os p)) p.cell x))) (sym (frame_is os cells p.frame))
    ∙ ap (λ (c : Cells). set (frames_of os cells) p.frame (set (frame_at (frames_of os cells) p.frame) p.variable (set c p.cell x))) (sym (cells_is os cells p))

-- the contents by their parts
pub contents_is : (a b : List Frame) (w v : List (ℕ × ℤ)) (most : ℕ) → a ≡ b → w ≡ v → ◌≡◌ {A = Contents} (record { frames = a; written = w; most = most }) (record { frames = b; written = v; most = most })
contents_is a b w v most e f =
    ap (λ (x : List Frame). let r : Contents = record { frames = x; written = w; most = most } in r) e
    ∙ ap (λ (x : List (ℕ × ℤ)). let r : Contents = record { frames = b; written = x; most = most } in r) f

pub noted : (ws : List (ℕ × ℤ)) (i j : ℕ) (x y : ℤ) → i ≡ j → x ≡ y → ws ++ (i, x) ∷ [] ≡ ws ++ (j, y) ∷ []
noted ws i j x y e f = ap (λ (n : ℕ). ws ++ (n, x) ∷ []) e ∙ ap (λ (n : ℤ). ws ++ (j, n) ∷ []) f
