-- The lines of the cells that were written are the lines of the places that differ.
use Rattle.std.proofs.Common.{◌≡◌, ◌≢◌, ℕ, zero, suc, ◌+◌, ◌<◌, ◌≤◌, List, [], ◌∷◌, ◌++◌, length, map, take, set, slice_get, Some, ℤ, refl, ap, sym, ◌∙◌, arith, if◌then◌else◌, Bool, true, Ordering}
use Rattle.std.proofs.lemmas.List.{take-set-le, set-set, set_comm}
use Rattle.std.proofs.lemmas.Cmp.{ranked, int_eq_equiv}
use Rattle.std.specs.Ordering.{int_eq, nat_cmp, match_ordering, MatchOrdering}
use Rattle.std.specs.declared.cmp.Ordering.TheVariants.{Less, Equal, Greater}
use Rattle.std.specs.BTreeMap.{insert_entry}
use Rattle.pml_program.specs.declared.program.Program.{Program}
use Rattle.promela_process.specs.Store.{Frame}
use Rattle.pml_store.specs.Writing.{Contents, joined, undone, before}
use Rattle.pml_store.proofs.Back.{joined_with, before_shape}
use Rattle.promela_run.specs.Lines.{Owner, each_change, owners, value_lines}
use Rattle.run_values.specs.Written.{line_at, oldest, if_changed, each_write, AreFrames, AreDeclared}
use Rattle.run_values.specs.Changed.{step_changes}
use Rattle.run_values.specs.Placed.{changed_at}
use Rattle.run_values.proofs.Flat.{lines_flat}
use Rattle.run_values.proofs.Placing.{changes_flat}

-- cells before they were written: the last write is undone first
abbrev cells_before : List ℤ → List (ℕ × ℤ) → List ℤ
cells_before cells [] = cells
cells_before cells (w ∷ ws) = set (cells_before cells ws) w.0 w.1

joined_undone : (fs : List Frame) (ws : List (ℕ × ℤ)) → joined (undone fs ws) ≡ cells_before (joined fs) ws
joined_undone fs [] = refl
joined_undone fs (w ∷ ws) = joined_with (undone fs ws) w.0 w.1 ∙ ap (λ (l : List ℤ). set l w.0 w.1) (joined_undone fs ws)

-- ---- the oldest number of each cell

-- the indices are no less than this
abbrev Above : ℕ → List (ℕ × ℤ) → Type 0
Above n [] = Unit {0}
Above n (w ∷ ws) = (n ≤ w.0) × Above n ws

abbrev Ascends : List (ℕ × ℤ) → Type 0
Ascends [] = Unit {0}
Ascends (w ∷ ws) = Above (suc w.0) ws × Ascends ws

above-less : (n m : ℕ) (ws : List (ℕ × ℤ)) → n ≤ m → Above m ws → Above n ws
above-less n m [] l h = tt
above-less n m (w ∷ ws) l h = let a = h.0 in (omega arith, above-less n m ws l h.1)

above-insert : (n : ℕ) (ws : List (ℕ × ℤ)) (i : ℕ) (x : ℤ) → n ≤ i → Above n ws → Above n (insert_entry nat_cmp ws i x)
above-insert n [] i x l h = (l, tt)
above-insert n (w ∷ ws) i x l h = cases (nat_cmp i w.0) (above-insert n ws i x l h.1)
  where
    cases : (o : Ordering) → Above n (insert_entry nat_cmp ws i x) → Above n (match_ordering o ((i, x) ∷ w ∷ ws) ((w.0, x) ∷ ws) (w ∷ insert_entry nat_cmp ws i x))
    cases Less r = (l, h)
    cases Equal r = (h.0, h.1)
    cases Greater r = (h.0, r)

ascends-insert : (ws : List (ℕ × ℤ)) (i : ℕ) (x : ℤ) → Ascends ws → Ascends (insert_entry nat_cmp ws i x)
ascends-insert [] i x h = (tt, tt)
ascends-insert (w ∷ ws) i x h = cases (nat_cmp i w.0) (ranked i w.0 (nat_cmp i w.0) refl) (λ l. above-insert (suc w.0) ws i x l h.0) (ascends-insert ws i x h.1)
  where
    cases : (o : Ordering) → MatchOrdering o (i < w.0) (i ≡ w.0) (w.0 < i) → (suc w.0 ≤ i → Above (suc w.0) (insert_entry nat_cmp ws i x)) → Ascends (insert_entry nat_cmp ws i x) →
        Ascends (match_ordering o ((i, x) ∷ w ∷ ws) ((w.0, x) ∷ ws) (w ∷ insert_entry nat_cmp ws i x))
    cases Less m a r =
        let l : i < w.0 = m in
        let n : suc i ≤ w.0 = omega arith in
        ((n, above-less (suc i) (suc w.0) ws (omega arith) h.0), h)
    cases Equal m a r = (h.0, h.1)
    cases Greater m a r = let l : w.0 < i = m in (a (omega arith), r)

ascends-oldest : (ws : List (ℕ × ℤ)) → Ascends (oldest ws)
ascends-oldest [] = tt
ascends-oldest (w ∷ ws) = ascends-insert (oldest ws) w.0 w.1 (ascends-oldest ws)

before-insert : (cells : List ℤ) (ws : List (ℕ × ℤ)) (i : ℕ) (x : ℤ) → cells_before cells (insert_entry nat_cmp ws i x) ≡ set (cells_before cells ws) i x
before-insert cells [] i x = refl
before-insert cells (w ∷ ws) i x = cases (nat_cmp i w.0) (ranked i w.0 (nat_cmp i w.0) refl) (before-insert cells ws i x)
  where
    cases : (o : Ordering) → MatchOrdering o (i < w.0) (i ≡ w.0) (w.0 < i) → cells_before cells (insert_entry nat_cmp ws i x) ≡ set (cells_before cells ws) i x →
        cells_before cells (match_ordering o ((i, x) ∷ w ∷ ws) ((w.0, x) ∷ ws) (w ∷ insert_entry nat_cmp ws i x)) ≡ set (set (cells_before cells ws) w.0 w.1) i x
    cases Less m r = refl
    cases Equal m r = sym (ap (λ (n : ℕ). set (set (cells_before cells ws) w.0 w.1) n x) m ∙ set-set (cells_before cells ws) w.0 w.1 x)
    cases Greater m r =
        let l : w.0 < i = m in
        let other : i ≢ w.0 = (λ e. omega arith) in
        ap (λ (c : List ℤ). set c w.0 w.1) r ∙ set_comm (cells_before cells ws) i w.0 x w.1 other

before-oldest : (cells : List ℤ) (ws : List (ℕ × ℤ)) → cells_before cells (oldest ws) ≡ cells_before cells ws
before-oldest cells [] = refl
before-oldest cells (w ∷ ws) = before-insert cells (oldest ws) w.0 w.1 ∙ ap (λ (c : List ℤ). set c w.0 w.1) (before-oldest cells ws)

-- ---- their lines

take-before : (n : ℕ) (cells : List ℤ) (ws : List (ℕ × ℤ)) → Above n ws → take n (cells_before cells ws) ≡ take n cells
take-before n cells [] h = refl
take-before n cells (w ∷ ws) h = take-set-le n (cells_before cells ws) w.0 w.1 h.0 ∙ take-before n cells ws h.1

same-none : {A : Type 0} (a b : ℤ) (l : List A) → a ≡ b → (if int_eq a b then [] else l) ≡ []
same-none a b l e = ap (λ (c : Bool). if c then [] else l) (ap (λ (x : ℤ). int_eq x b) e ∙ int_eq_equiv.refl b)

pub lines-same : {A : Type 0} (f : ℕ → ℤ → List A) (k : ℕ) (xs : List ℤ) → each_change f k xs xs ≡ []
lines-same f k [] = refl
lines-same f k (x ∷ xs) = ap (λ (l : List _). l ++ each_change f (k + 1) xs xs) (same-none x x (f k x) refl) ∙ lines-same f (k + 1) xs

-- one cell more differs, behind those that are the same
lines-set : {A : Type 0} (f : ℕ → ℤ → List A) (k : ℕ) (xs ys : List ℤ) (j : ℕ) (x : ℤ) → take (suc j) xs ≡ take (suc j) ys → each_change f k (set xs j x) ys ≡ if_changed f (k + j, x) (slice_get ys j) ++ each_change f k xs ys
lines-set f k [] [] j x h = refl
lines-set f k [] (y ∷ ys) j x h = absurd (let e : [] ≡ y ∷ take j ys = h in cc)
lines-set f k (y ∷ xs) [] j x h = absurd (let e : y ∷ take j xs ≡ [] = h in cc)
lines-set f k (a ∷ xs) (b ∷ ys) zero x h =
    let e : a ∷ take 0 xs ≡ b ∷ take 0 ys = h in
    let same : a ≡ b = cc in
    let n : k + 0 ≡ k = omega arith in
    let rest = each_change f (k + 1) xs ys in
    sym (ap (λ (i : ℕ). if_changed f (i, x) (Some b) ++ ((if int_eq a b then [] else f k b) ++ rest)) n ∙ ap (λ (l : List _). if_changed f (k, x) (Some b) ++ (l ++ rest)) (same-none a b (f k b) same))
lines-set f k (a ∷ xs) (b ∷ ys) (suc j) x h =
    let e : a ∷ take (suc j) xs ≡ b ∷ take (suc j) ys = h in
    let same : a ≡ b = cc in
    let left : take (suc j) xs ≡ take (suc j) ys = cc in
    let n : k + 1 + j ≡ k + suc j = omega arith in
    let none = same-none a b (f k b) same in
    let rest = each_change f (k + 1) xs ys in
    ap (λ (l : List _). l ++ each_change f (k + 1) (set xs j x) ys) none
    ∙ lines-set f (k + 1) xs ys j x left
    ∙ ap (λ (i : ℕ). if_changed f (i, x) (slice_get ys j) ++ rest) n
    ∙ ap (λ (l : List _). if_changed f (k + suc j, x) (slice_get ys j) ++ (l ++ rest)) (sym none)

lines-ascending : {A : Type 0} (f : ℕ → ℤ → List A) (cells : List ℤ) (ws : List (ℕ × ℤ)) → Ascends ws → each_change f 0 (cells_before cells ws) cells ≡ each_write f cells ws
lines-ascending f cells [] h = lines-same f 0 cells
lines-ascending f cells (w ∷ ws) h =
    let n : 0 + w.0 ≡ w.0 = omega arith in
    lines-set f 0 (cells_before cells ws) cells w.0 w.1 (take-before (suc w.0) cells ws h.0)
    ∙ ap (λ (i : ℕ). if_changed f (i, w.1) (slice_get cells w.0) ++ each_change f 0 (cells_before cells ws) cells) n
    ∙ ap (λ (l : List _). if_changed f w (slice_get cells w.0) ++ l) (lines-ascending f cells ws h.1)

-- ---- the places

same_shape : (os : List Owner) (gs fs : List Frame) → map (map length) gs ≡ map (map length) fs → AreFrames os fs → AreFrames os gs
same_shape os [] fs e h = tt
same_shape os (g ∷ gs) [] e h = absurd (let z : map length g ∷ map (map length) gs ≡ [] = e in cc)
same_shape [] (g ∷ gs) (f ∷ fs) e h = tt
same_shape (o ∷ os) (g ∷ gs) (f ∷ fs) e h =
    let z : map length g ∷ map (map length) gs ≡ map length f ∷ map (map length) fs = e in
    let here : map length g ≡ map length f = cc in
    let rest : map (map length) gs ≡ map (map length) fs = cc in
    (here ∙ h.0, same_shape os gs fs rest h.1)

pub writes_flat : (p : Program) (ks : List ℕ) (now : Contents) (globals locals : Bool) → AreDeclared p ks now.frames →
    each_write (line_at p (owners p globals locals ks)) (joined now.frames) (oldest now.written) ≡ value_lines p ks (before now) now.frames globals locals
writes_flat p ks now globals locals a =
    let f = line_at p (owners p globals locals ks) in
    let ys = joined now.frames in
    let declared = same_shape (owners p true true ks) (before now) now.frames (before_shape now) a in
    sym (lines-ascending f ys (oldest now.written) (ascends-oldest now.written))
    ∙ ap (λ (xs : List ℤ). each_change f 0 xs ys) (before-oldest ys now.written ∙ sym (joined_undone now.frames now.written))
    ∙ lines_flat p ks (before now) now.frames (joined (before now)) ys globals locals (record { numbers = refl; declared = declared }) (record { numbers = refl; declared = a })

pub changes_written : (p : Program) (ks : List ℕ) (now : Contents) → AreDeclared p ks now.frames → each_write (changed_at p ks) (joined now.frames) (oldest now.written) ≡ step_changes ks now
changes_written p ks now a =
    let f = changed_at p ks in
    let ys = joined now.frames in
    let declared = same_shape (owners p true true ks) (before now) now.frames (before_shape now) a in
    sym (lines-ascending f ys (oldest now.written) (ascends-oldest now.written))
    ∙ ap (λ (xs : List ℤ). each_change f 0 xs ys) (before-oldest ys now.written ∙ sym (joined_undone now.frames now.written))
    ∙ changes_flat p ks (before now) now.frames declared a
