-- Frames come and go at the end of the vector.
use Rattle.std.proofs.Common.{◌≡◌, ℕ, ◌+◌, ◌-◌, ◌≤◌, List, [], ◌∷◌, ◌++◌, length, take, drop, map, ℤ, pos, refl, sym, ap, subst, add-zero, ◌∙◌, arith, sum, replicate, length-append, length-take, length-drop, add_assoc}
use Rattle.std.proofs.lemmas.List.{take-append-drop, take-append-le, drop-append-le, drop-replicate, take-replicate, map-append, length-replicate, take_all}
use Rattle.std.proofs.lemmas.List.Sums.{sum_by-cons}
use Rattle.std.proofs.Math.Seq.{drop-append-add, take-append_seam}
use Rattle.pml_store.specs.declared.store.Extent.{Extent}
use Rattle.pml_store.specs.declared.store.FrameExtents.{FrameExtents}
use Rattle.promela_process.specs.Store.{Frame, zeros}
use Rattle.pml_store.specs.Writing.{but_last, joined}
use Rattle.pml_store.specs.Laid.{cells_of, frame_of, frames_of, ExtentsLie, extents_end, FramesLie, frames_end, extents_of, IsLaid, IsKept}
use Rattle.pml_store.proofs.Places.{extents_on, frames_on, joined_is}

both : {A : Type 0} (x y : A) (xs ys : List A) → x ≡ y → xs ≡ ys → x ∷ xs ≡ y ∷ ys
both x y xs ys e f = ap (λ z. z ∷ xs) e ∙ ap (λ zs. y ∷ zs) f

-- ---- what stands at the end is not seen by the frames before it

cells_front : (cells more : List ℤ) (s : Extent) → s.start + s.size ≤ length cells → cells_of (cells ++ more) s ≡ cells_of cells s
cells_front cells more s h =
    let d = length-drop s.start cells in
    ap (take s.size) (drop-append-le s.start cells more (omega arith)) ∙ take-append-le s.size (drop s.start cells) more (omega arith)

extents_front : (cells more : List ℤ) (ss : List Extent) (at : ℕ) → ExtentsLie ss at → extents_end ss at ≤ length cells → map (cells_of (cells ++ more)) ss ≡ map (cells_of cells) ss
extents_front cells more [] at h l = refl
extents_front cells more (s ∷ ss) at h l =
    let e = h.0 in let on = extents_on ss (at + s.size) in
    both _ _ _ _ (cells_front cells more s (omega arith)) (extents_front cells more ss (at + s.size) h.1 l)

frames_front : (cells more : List ℤ) (os : List FrameExtents) (at : ℕ) → FramesLie os at → frames_end os at ≤ length cells → frames_of os (cells ++ more) ≡ frames_of os cells
frames_front cells more [] at h l = refl
frames_front cells more (o ∷ os) at h l =
    let on = frames_on os (extents_end o.extents at) in
    both _ _ _ _ (extents_front cells more o.extents at h.1 (omega arith)) (frames_front cells more os (extents_end o.extents at) h.2 l)

-- ---- a new frame

extents_of_lie : (at : ℕ) (ns : List ℕ) → ExtentsLie (extents_of at ns) at × (extents_end (extents_of at ns) at ≡ at + sum ns)
extents_of_lie at [] = (tt, omega arith)
extents_of_lie at (n ∷ ns) = let r = extents_of_lie (at + n) ns in let e = r.1 in let t = sum_by-cons (λ x. x) n ns in ((refl, r.0), omega arith)

lie_more : (os : List FrameExtents) (o : FrameExtents) (at : ℕ) → FramesLie os at → o.base ≡ frames_end os at → ExtentsLie o.extents (frames_end os at) → FramesLie (os ++ o ∷ []) at × (frames_end (os ++ o ∷ []) at ≡ extents_end o.extents (frames_end os at))
lie_more [] o at h e l = ((e, l, tt), refl)
lie_more (w ∷ os) o at h e l = let r = lie_more os o (extents_end w.extents at) h.2 e l in ((h.0, h.1, r.0), r.1)

zeros_at : (cells : List ℤ) (ns : List ℕ) (k m : ℕ) → k + sum ns ≤ m → map (cells_of (cells ++ replicate m (pos 0))) (extents_of (length cells + k) ns) ≡ zeros ns
zeros_at cells [] k m h = refl
zeros_at cells (n ∷ ns) k m h =
    let t = sum_by-cons (λ x. x) n ns in
    both _ _ _ _
    (ap (take n) (drop-append-add cells (replicate m (pos 0)) k ∙ drop-replicate k m (pos 0)) ∙ take-replicate n (m - k) (pos 0) (omega arith))
    (ap (λ (a : ℕ). map (cells_of (cells ++ replicate m (pos 0))) (extents_of a ns)) (add_assoc (length cells) k n) ∙ zeros_at cells ns (k + n) m (omega arith))

pub IsLaid-push : (os : List FrameExtents) (cells : List ℤ) (ns : List ℕ) → IsLaid os cells → IsLaid (os ++ record { base = length cells; extents = extents_of (length cells) ns } ∷ []) (cells ++ replicate (sum ns) (pos 0))
IsLaid-push os cells ns h =
    let l = extents_of_lie (length cells) ns in
    let c = h.cover in
    let o : FrameExtents = record { base = length cells; extents = extents_of (length cells) ns } in
    let m = lie_more os o 0 h.lie (sym c) (subst (ExtentsLie o.extents) (sym c) l.0) in
    let e : extents_end o.extents (frames_end os 0) ≡ extents_end o.extents (length cells) = ap (extents_end o.extents) c in
    let a = length-append cells (replicate (sum ns) (pos 0)) in
    let r = length-replicate (sum ns) (pos 0) in
    let k = m.1 in
    let q = l.1 in
    record { lie = m.0; cover = omega arith }

pub frames_of-push : (os : List FrameExtents) (cells : List ℤ) (ns : List ℕ) → IsLaid os cells → frames_of (os ++ record { base = length cells; extents = extents_of (length cells) ns } ∷ []) (cells ++ replicate (sum ns) (pos 0)) ≡ frames_of os cells ++ zeros ns ∷ []
frames_of-push os cells ns h =
    let o : FrameExtents = record { base = length cells; extents = extents_of (length cells) ns } in
    let more = replicate (sum ns) (pos 0) in
    let front = frames_front cells more os 0 h.lie (omega (arith, h.cover)) in
    let z = ap (λ (a : ℕ). map (cells_of (cells ++ more)) (extents_of a ns)) (sym (add-zero (length cells))) ∙ zeros_at cells ns 0 (sum ns) (omega arith) in
    map-append (frame_of (cells ++ more)) os (o ∷ [])
    ∙ ap (λ (x : List Frame). x ++ frame_of (cells ++ more) o ∷ []) front
    ∙ ap (λ (f : Frame). frames_of os cells ++ f ∷ []) z

-- ---- the youngest goes

lie_less : (os : List FrameExtents) (o : FrameExtents) (at : ℕ) → FramesLie (os ++ o ∷ []) at → FramesLie os at × (o.base ≡ frames_end os at) × (frames_end os at ≤ frames_end (os ++ o ∷ []) at)
lie_less [] o at h = let on = extents_on o.extents at in (tt, h.0, on)
lie_less (w ∷ os) o at h = let r = lie_less os o (extents_end w.extents at) h.2 in ((h.0, h.1, r.0), r.1, r.2)

pub IsLaid-pop : (os : List FrameExtents) (o : FrameExtents) (cells : List ℤ) → IsLaid (os ++ o ∷ []) cells → IsLaid os (take o.base cells)
IsLaid-pop os o cells h =
    let r = lie_less os o 0 h.lie in
    let t = length-take o.base cells in
    let b = r.1 in let m = r.2 in let c = h.cover in
    record { lie = r.0; cover = omega arith }

but_last-push : (fs : List Frame) (f : Frame) → but_last (fs ++ f ∷ []) ≡ fs
but_last-push fs f =
    let n = length-append fs (f ∷ []) in
    let e : length (fs ++ f ∷ []) - 1 ≡ length fs = omega arith in
    ap (λ (k : ℕ). take k (fs ++ f ∷ [])) e ∙ take-append_seam fs (f ∷ [])

pub frames_of-pop : (os : List FrameExtents) (o : FrameExtents) (cells : List ℤ) → IsLaid (os ++ o ∷ []) cells → frames_of os (take o.base cells) ≡ but_last (frames_of (os ++ o ∷ []) cells)
frames_of-pop os o cells h =
    let r = lie_less os o 0 h.lie in
    let b = r.1 in
    let m = r.2 in
    let c = h.cover in
    let t = length-take o.base cells in
    let front = frames_front (take o.base cells) (drop o.base cells) os 0 r.0 (omega arith) in
    let whole = ap (frames_of os) (take-append-drop o.base cells) in
    let n = length-append (frames_of os cells) (frame_of cells o ∷ []) in
    let e = map-append (frame_of cells) os (o ∷ []) in
    sym front ∙ whole ∙ sym (but_last-push (frames_of os cells) (frame_of cells o)) ∙ ap but_last (sym e)

-- what the code made is what was wanted
pub frame_extents_is : (b a : ℕ) (s t : List Extent) → b ≡ a → s ≡ t → ◌≡◌ {A = FrameExtents} (record { base = b; extents = s }) (record { base = a; extents = t })
frame_extents_is b a s t e f = ap (λ (n : ℕ). let o : FrameExtents = record { base = n; extents = s } in o) e ∙ ap (λ (x : List Extent). let o : FrameExtents = record { base = a; extents = x } in o) f

pub grown : (cells : List ℤ) (n m k : ℕ) → m ≡ length cells → n ≡ m + k → take n cells ++ replicate (n - m) (pos 0) ≡ cells ++ replicate k (pos 0)
grown cells n m k e f =
    let i : n - m ≡ k = omega arith in
    ap (λ (x : List ℤ). x ++ replicate (n - m) (pos 0)) (take_all n cells (omega arith)) ∙ ap (λ (j : ℕ). cells ++ replicate j (pos 0)) i

-- ---- no more than there may be

-- so many cells are there
count_is : (os : List FrameExtents) (cells : List ℤ) (most : ℕ) → IsKept os cells most → length (joined (frames_of os cells)) ≡ length cells
count_is os cells most h = ap length (joined_is os cells h.laid)

pub kept_push : (os : List FrameExtents) (cells : List ℤ) (ns : List ℕ) (most : ℕ) → IsKept os cells most → length (joined (frames_of os cells)) + sum ns ≤ most →
    IsKept (os ++ record { base = length cells; extents = extents_of (length cells) ns } ∷ []) (cells ++ replicate (sum ns) (pos 0)) most
kept_push os cells ns most h room =
    let a = length-append cells (replicate (sum ns) (pos 0)) in
    let r = length-replicate (sum ns) (pos 0) in
    record { laid = IsLaid-push os cells ns h.laid; few = omega (arith, a, r, room, count_is os cells most h) }

pub room_left : (os : List FrameExtents) (cells : List ℤ) (ns : List ℕ) (most base : ℕ) → IsKept os cells most → length (joined (frames_of os cells)) + sum ns ≤ most → base ≡ length cells → most ≤ 4294967295 → base + sum ns ≤ 4294967295
room_left os cells ns most base h room b fits = omega (arith, room, b, fits, count_is os cells most h)
