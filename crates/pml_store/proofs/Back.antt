-- The log of writes leads back.
use Rattle.std.proofs.Common.{◌≡◌, ℕ, zero, suc, ◌+◌, ◌-◌, ◌<◌, ◌≤◌, Bool, true, false, if◌then◌else◌, List, [], ◌∷◌, ◌++◌, length, get_or, set, map, take, ℤ, pos, refl, sym, ap, ◌∙◌, arith, length-append, ltb}
use Rattle.std.proofs.lemmas.Bool.{lt-ltb, le-ltb, ltb-true, ltb-false}
use Rattle.std.proofs.lemmas.List.{length-set, set-append_left, set-append_right, set-get_or}
use Rattle.promela_process.specs.declared.place.Place.{Place}
use Rattle.promela_process.specs.Store.{Frame, Cells, frame_at, cells_at, number_at, with_number, size_at}
use Rattle.pml_store.specs.Writing.{Contents, HasPlace, flat, joined, index_of, frame_with, index_with, undone, before}

-- ---- an index among all

frame_here : (c : Cells) (cs : Frame) (i : ℕ) (v : ℤ) → i < length c → frame_with (c ∷ cs) i v ≡ set c i v ∷ cs
frame_here c cs i v h = rw (lt-ltb i (length c) h) refl

frame_past : (c : Cells) (cs : Frame) (i j : ℕ) (v : ℤ) → length c ≤ i → i - length c ≡ j → frame_with (c ∷ cs) i v ≡ c ∷ frame_with cs j v
frame_past c cs i j v h e = rw (le-ltb i (length c) h) (ap (λ (n : ℕ). c ∷ frame_with cs n v) e)

index_here : (f : Frame) (fs : List Frame) (i : ℕ) (v : ℤ) → i < length (flat f) → index_with (f ∷ fs) i v ≡ frame_with f i v ∷ fs
index_here f fs i v h = rw (lt-ltb i (length (flat f)) h) refl

index_past : (f : Frame) (fs : List Frame) (i j : ℕ) (v : ℤ) → length (flat f) ≤ i → i - length (flat f) ≡ j → index_with (f ∷ fs) i v ≡ f ∷ index_with fs j v
index_past f fs i j v h e = rw (le-ltb i (length (flat f)) h) (ap (λ (n : ℕ). f ∷ index_with fs n v) e)

flat_with : (f : Frame) (i : ℕ) (v : ℤ) → flat (frame_with f i v) ≡ set (flat f) i v
flat_with [] i v = refl
flat_with (c ∷ cs) i v = cases (flat_with cs (i - length c) v) (ltb i (length c)) refl
  where
    cases : flat (frame_with cs (i - length c) v) ≡ set (flat cs) (i - length c) v → (b : Bool) → ltb i (length c) ≡ b → flat (if b then set c i v ∷ cs else c ∷ frame_with cs (i - length c) v) ≡ set (c ++ flat cs) i v
    cases r true e = sym (set-append_left c (flat cs) i v (ltb-true i (length c) e))
    cases r false e = ap (λ (x : List ℤ). c ++ x) r ∙ sym (set-append_right c (flat cs) (length c) i v refl (ltb-false i (length c) e))

pub joined_with : (fs : List Frame) (i : ℕ) (v : ℤ) → joined (index_with fs i v) ≡ set (joined fs) i v
joined_with [] i v = refl
joined_with (f ∷ fs) i v = cases (joined_with fs (i - length (flat f)) v) (ltb i (length (flat f))) refl
  where
    cases : joined (index_with fs (i - length (flat f)) v) ≡ set (joined fs) (i - length (flat f)) v → (b : Bool) → ltb i (length (flat f)) ≡ b → joined (if b then frame_with f i v ∷ fs else f ∷ index_with fs (i - length (flat f)) v) ≡ set (flat f ++ joined fs) i v
    cases r true e = ap (λ (x : List ℤ). x ++ joined fs) (flat_with f i v) ∙ sym (set-append_left (flat f) (joined fs) i v (ltb-true i (length (flat f)) e))
    cases r false e = ap (λ (x : List ℤ). flat f ++ x) r ∙ sym (set-append_right (flat f) (joined fs) (length (flat f)) i v refl (ltb-false i (length (flat f)) e))

-- ---- the shape stays

frame_shape : (f : Frame) (i : ℕ) (v : ℤ) → map length (frame_with f i v) ≡ map length f
frame_shape [] i v = refl
frame_shape (c ∷ cs) i v = cases (frame_shape cs (i - length c) v) (ltb i (length c))
  where
    cases : map length (frame_with cs (i - length c) v) ≡ map length cs → (b : Bool) → map length (if b then set c i v ∷ cs else c ∷ frame_with cs (i - length c) v) ≡ length c ∷ map length cs
    cases r true = ap (λ (n : ℕ). n ∷ map length cs) (length-set c i v)
    cases r false = ap (λ (ns : List ℕ). length c ∷ ns) r

index_shape : (fs : List Frame) (i : ℕ) (v : ℤ) → map (map length) (index_with fs i v) ≡ map (map length) fs
index_shape [] i v = refl
index_shape (f ∷ fs) i v = cases (index_shape fs (i - length (flat f)) v) (ltb i (length (flat f)))
  where
    cases : map (map length) (index_with fs (i - length (flat f)) v) ≡ map (map length) fs → (b : Bool) → map (map length) (if b then frame_with f i v ∷ fs else f ∷ index_with fs (i - length (flat f)) v) ≡ map length f ∷ map (map length) fs
    cases r true = ap (λ (ns : List ℕ). ns ∷ map (map length) fs) (frame_shape f i v)
    cases r false = ap (λ (ns : List (List ℕ)). map length f ∷ ns) r

undone_shape : (fs : List Frame) (ws : List (ℕ × ℤ)) → map (map length) (undone fs ws) ≡ map (map length) fs
undone_shape fs [] = refl
undone_shape fs (w ∷ ws) = index_shape (undone fs ws) w.0 w.1 ∙ undone_shape fs ws

pub before_shape : (now : Contents) → map (map length) (before now) ≡ map (map length) now.frames
before_shape now = undone_shape now.frames now.written

-- ---- a write undone

set_again : (c : Cells) (i : ℕ) (v u : ℤ) → set (set c i v) i u ≡ set c i u
set_again [] i v u = refl
set_again (x ∷ xs) zero v u = refl
set_again (x ∷ xs) (suc i) v u = ap (λ (y : Cells). x ∷ y) (set_again xs i v u)

frame_again : (f : Frame) (i : ℕ) (v u : ℤ) → frame_with (frame_with f i v) i u ≡ frame_with f i u
frame_again [] i v u = refl
frame_again (c ∷ cs) i v u = cases (frame_again cs (i - length c) v u) (ltb i (length c)) refl
  where
    cases : frame_with (frame_with cs (i - length c) v) (i - length c) u ≡ frame_with cs (i - length c) u → (b : Bool) → ltb i (length c) ≡ b →
        frame_with (if b then set c i v ∷ cs else c ∷ frame_with cs (i - length c) v) i u ≡ (if b then set c i u ∷ cs else c ∷ frame_with cs (i - length c) u)
    cases r true e =
        let n = length-set c i v in
        let l = ltb-true i (length c) e in
        frame_here (set c i v) cs i u (omega arith) ∙ ap (λ (x : Cells). x ∷ cs) (set_again c i v u)
    cases r false e = frame_past c (frame_with cs (i - length c) v) i (i - length c) u (ltb-false i (length c) e) refl ∙ ap (λ (x : Frame). c ∷ x) r

index_again : (fs : List Frame) (i : ℕ) (v u : ℤ) → index_with (index_with fs i v) i u ≡ index_with fs i u
index_again [] i v u = refl
index_again (f ∷ fs) i v u = cases (index_again fs (i - length (flat f)) v u) (ltb i (length (flat f))) refl
  where
    cases : index_with (index_with fs (i - length (flat f)) v) (i - length (flat f)) u ≡ index_with fs (i - length (flat f)) u → (b : Bool) → ltb i (length (flat f)) ≡ b →
        index_with (if b then frame_with f i v ∷ fs else f ∷ index_with fs (i - length (flat f)) v) i u ≡ (if b then frame_with f i u ∷ fs else f ∷ index_with fs (i - length (flat f)) u)
    cases r true e =
        let n = ap length (flat_with f i v) ∙ length-set (flat f) i v in
        let l = ltb-true i (length (flat f)) e in
        index_here (frame_with f i v) fs i u (omega arith) ∙ ap (λ (x : Frame). x ∷ fs) (frame_again f i v u)
    cases r false e = index_past f (index_with fs (i - length (flat f)) v) i (i - length (flat f)) u (ltb-false i (length (flat f)) e) refl ∙ ap (λ (x : List Frame). f ∷ x) r

undone-last : (fs : List Frame) (ws : List (ℕ × ℤ)) (w : ℕ × ℤ) → undone fs (ws ++ w ∷ []) ≡ undone (index_with fs w.0 w.1) ws
undone-last fs [] w = refl
undone-last fs (v ∷ vs) w = ap (λ (x : List Frame). index_with x v.0 v.1) (undone-last fs vs w)

-- ---- a place by its index

frame_set : (f : Frame) (n k : ℕ) (v : ℤ) → n < length f → k < length (get_or f n []) → frame_with f (length (flat (take n f)) + k) v ≡ set f n (set (get_or f n []) k v)
frame_set [] n k v h l = absurd (omega arith)
frame_set (c ∷ cs) zero k v h l =
    let e : 0 + k ≡ k = omega arith in
    ap (λ (i : ℕ). frame_with (c ∷ cs) i v) e ∙ frame_here c cs k v l
frame_set (c ∷ cs) (suc n) k v h l =
    let a = length-append c (flat (take n cs)) in
    frame_past c cs (length (c ++ flat (take n cs)) + k) (length (flat (take n cs)) + k) v (omega arith) (omega arith)
    ∙ ap (λ (x : Frame). c ∷ x) (frame_set cs n k v (omega arith) l)

flat_within : (f : Frame) (n k : ℕ) → n < length f → k < length (get_or f n []) → length (flat (take n f)) + k < length (flat f)
flat_within [] n k h l = absurd (omega arith)
flat_within (c ∷ cs) zero k h l = let a = length-append c (flat cs) in omega arith
flat_within (c ∷ cs) (suc n) k h l =
    let a = length-append c (flat (take n cs)) in let b = length-append c (flat cs) in
    let r = flat_within cs n k (omega arith) l in omega arith

frames_set : (fs : List Frame) (o n k : ℕ) (v : ℤ) → o < length fs → n < length (get_or fs o []) → k < length (get_or (get_or fs o []) n []) →
    index_with fs (length (joined (take o fs)) + (length (flat (take n (get_or fs o []))) + k)) v ≡ set fs o (set (get_or fs o []) n (set (get_or (get_or fs o []) n []) k v))
frames_set [] o n k v h l m = absurd (omega arith)
frames_set (f ∷ fs) zero n k v h l m =
    let i = length (flat (take n f)) + k in
    let e : 0 + i ≡ i = omega arith in
    ap (λ (j : ℕ). index_with (f ∷ fs) j v) e ∙ index_here f fs i v (flat_within f n k l m) ∙ ap (λ (x : Frame). x ∷ fs) (frame_set f n k v l m)
frames_set (f ∷ fs) (suc o) n k v h l m =
    let rest = length (flat (take n (get_or fs o []))) + k in
    let a = length-append (flat f) (joined (take o fs)) in
    index_past f fs (length (flat f ++ joined (take o fs)) + rest) (length (joined (take o fs)) + rest) v (omega arith) (omega arith)
    ∙ ap (λ (x : List Frame). f ∷ x) (frames_set fs o n k v (omega arith) l m)

place_set : (fs : List Frame) (p : Place) (v : ℤ) → HasPlace fs p → index_with fs (index_of fs p) v ≡ with_number fs p v
place_set fs p v h = frames_set fs p.frame p.variable p.cell v h.frame h.variable h.cell

-- what is there, stored again
own_number : (fs : List Frame) (p : Place) → with_number fs p (number_at fs p) ≡ fs
own_number fs p =
    ap (λ (c : Cells). set fs p.frame (set (frame_at fs p.frame) p.variable c)) (set-get_or (cells_at fs p) p.cell (pos 0))
    ∙ ap (λ (f : Frame). set fs p.frame f) (set-get_or (frame_at fs p.frame) p.variable [])
    ∙ set-get_or fs p.frame []

pub before_set : (now : Contents) (p : Place) (v : ℤ) → HasPlace now.frames p → before (record now { frames = with_number now.frames p v; written = now.written ++ (index_of now.frames p, number_at now.frames p) ∷ [] }) ≡ before now
before_set now p v h =
    let i = index_of now.frames p in
    let old = number_at now.frames p in
    undone-last (with_number now.frames p v) now.written (i, old)
    ∙ ap (λ (x : List Frame). undone (index_with x i old) now.written) (sym (place_set now.frames p v h))
    ∙ ap (λ (x : List Frame). undone x now.written) (index_again now.frames i v old ∙ place_set now.frames p old h ∙ own_number now.frames p)

-- ---- a place by its sizes

some_there : {A : Type 0} (xss : List (List A)) (i k : ℕ) → k < length (get_or xss i []) → i < length xss
some_there [] i k h = absurd (omega arith)
some_there (xs ∷ xss) zero k h = omega arith
some_there (xs ∷ xss) (suc i) k h = let r = some_there xss i k h in omega arith

pub has_cell : (frames : List Frame) (p : Place) → p.cell < size_at frames p.frame p.variable → HasPlace frames p
has_cell frames p h =
    let variable = some_there (frame_at frames p.frame) p.variable p.cell h in
    record { frame = some_there frames p.frame p.variable variable; variable = variable; cell = h }
