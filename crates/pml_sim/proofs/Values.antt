-- Lines of the processes that were there before the step.
use Rattle.std.proofs.Common.{◌≡◌, ◌⊎◌, inl, inr, ℕ, zero, suc, ◌+◌, ◌<◌, ◌≤◌, min, arith, Bool, true, List, [], ◌∷◌, ◌++◌, length, map, take, refl, sym, ap, ◌∙◌}
use Rattle.std.specs.Prelude.{slice_get}
use Rattle.std.proofs.lemmas.List.{take_all, length-map, length-take-le}
use Rattle.std.proofs.lemmas.Bool.{cases_lt}
use Rattle.pml_program.specs.declared.program.Program.{Program}
use Rattle.promela_process.specs.Store.{Frame}
use Rattle.pml_store.specs.Writing.{Contents, before}
use Rattle.pml_store.proofs.Back.{before_shape}
use Rattle.promela_run.specs.State.{size, variables_at}
use Rattle.run_start.specs.Shown.{shape}
use Rattle.run_start.specs.Starting.{IsDeclared}
use Rattle.run_values.specs.declared.change.Wanted.{Wanted}
use Rattle.run_values.specs.declared.changed.Change.{Change}
use Rattle.run_values.specs.Changed.{change, changes, frame_changes, step_changes, variable_changes}
use Rattle.run_values.proofs.Undoing.{lines-same}
use Rattle.promela_run.specs.Lines.{Owner, process_owners, process_owner, owners, owner_lines, variable_lines, cell_line, value_lines}
use Rattle.run_values.specs.Written.{AreFrames, AreDeclared, step_lines, global_owner}

head_is : {A : Type 0} {x y : A} {xs ys : List A} → x ∷ xs ≡ y ∷ ys → x ≡ y
head_is h = cc

tail_is : {A : Type 0} {x y : A} {xs ys : List A} → x ∷ xs ≡ y ∷ ys → xs ≡ ys
tail_is h = cc

locals : (p : Program) (i n : ℕ) (sorts : List ℕ) (frames : List Frame) → shape frames ≡ map (λ k. map size (variables_at p k)) sorts → AreFrames (process_owners p true i (take n sorts)) frames
locals p i n [] [] h = tt
locals p i n [] (f ∷ fs) h = absurd cc
locals p i zero (k ∷ ks) [] h = tt
locals p i (suc n) (k ∷ ks) [] h = tt
locals p i zero (k ∷ ks) (f ∷ fs) h = tt
locals p i (suc n) (k ∷ ks) (f ∷ fs) h = (head_is h, locals p (i + 1) n ks fs (tail_is h))

-- the first processes have what they are declared with
pub first_declared : (p : Program) (frames : List Frame) (sorts : List ℕ) (n : ℕ) → IsDeclared p frames sorts → AreDeclared p (take n sorts) frames
first_declared p frames sorts n h = go frames h.sizes
  where
    go : (fs : List Frame) → shape fs ≡ map size p.globals ∷ map (λ k. map size (variables_at p k)) sorts → AreDeclared p (take n sorts) fs
    go [] e = tt
    go (f ∷ fs) e = (head_is e, locals p 0 n sorts fs (tail_is e))

-- ---- as many owners as frames

fewer : (p : Program) (os : List Owner) (n : ℕ) (xs ys : List Frame) → owner_lines p os (take n xs) ys ≡ owner_lines p (take n os) xs ys
fewer p [] zero xs ys = refl
fewer p [] (suc n) [] ys = refl
fewer p [] (suc n) (x ∷ xs) ys = refl
fewer p (o ∷ os) zero xs ys = refl
fewer p (o ∷ os) (suc n) [] ys = refl
fewer p (o ∷ os) (suc n) (x ∷ xs) [] = refl
fewer p (o ∷ os) (suc n) (x ∷ xs) (y ∷ ys) = ap (λ (l : List ℕ). variable_lines (cell_line p o) o.slots x y ++ l) (fewer p os n xs ys)

owners_taken : (p : Program) (wanted : Bool) (i n : ℕ) (sorts : List ℕ) → process_owners p wanted i (take n sorts) ≡ take n (process_owners p wanted i sorts)
owners_taken p wanted i zero sorts = refl
owners_taken p wanted i (suc n) [] = refl
owners_taken p wanted i (suc n) (k ∷ ks) = ap (λ (l : List Owner). process_owner wanted i (slice_get p.proctypes k) ∷ l) (owners_taken p wanted (i + 1) n ks)

-- the numbers before of the first n processes, and so many processes
pub lines_of_first : (p : Program) (n : ℕ) (sorts : List ℕ) (store : Contents) (w : Wanted) →
    step_lines p (take n sorts) store w ≡ value_lines p sorts (take (n + 1) (before store)) store.frames w.globals w.locals
lines_of_first p n sorts store w =
    ap (λ (os : List Owner). owner_lines p (global_owner p w.globals ∷ os) (before store) store.frames) (owners_taken p w.locals 0 n sorts)
    ∙ sym (fewer p (owners p w.globals w.locals sorts) (suc n) (before store) store.frames)
    ∙ ap (λ (i : ℕ). value_lines p sorts (take i (before store)) store.frames w.globals w.locals) (let e : suc n ≡ n + 1 = omega arith in e)

-- no more are taken than there are
pub taken_min : (n : ℕ) (sorts : List ℕ) → take (min n (length sorts)) sorts ≡ take n sorts
taken_min n sorts = by (cases_lt n (length sorts))
  where
    by : (n < length sorts) ⊎ (length sorts ≤ n) → take (min n (length sorts)) sorts ≡ take n sorts
    by (inl h) = ap (λ (i : ℕ). take i sorts) (let e : min n (length sorts) ≡ n = omega (arith, h) in e)
    by (inr h) = take_all (min n (length sorts)) sorts (omega (arith, h)) ∙ sym (take_all n sorts h)

-- ---- the changes of a step

-- there are as many frames before it as after it
frames_before : (store : Contents) → length (before store) ≡ length store.frames
frames_before store = sym (length-map (before store) (map length)) ∙ ap length (before_shape store) ∙ length-map store.frames (map length)

-- those of the globals and of each process
pub frames_declared : (p : Program) (frames : List Frame) (sorts : List ℕ) → IsDeclared p frames sorts → length frames ≡ suc (length sorts)
frames_declared p frames sorts h = sym (length-map frames (map length)) ∙ ap length h.sizes ∙ ap suc (length-map sorts (λ (k : ℕ). map size (variables_at p k)))

-- the numbers before of the first n processes, and so many processes
pub changes_of_first : (n : ℕ) (sorts : List ℕ) (store : Contents) → length store.frames ≡ suc (length sorts) → step_changes (take (min n (length sorts)) sorts) store ≡ changes (take (n + 1) (before store)) store.frames
changes_of_first n sorts store l =
    ap (λ (i : ℕ). changes (take (i + 1) (before store)) store.frames) (length-take-le (min n (length sorts)) sorts (omega arith))
    ∙ ap (λ (fs : List Frame). changes fs store.frames) (by (cases_lt n (length sorts)))
  where
    by : (n < length sorts) ⊎ (length sorts ≤ n) → take (min n (length sorts) + 1) (before store) ≡ take (n + 1) (before store)
    by (inl h) = ap (λ (i : ℕ). take i (before store)) (let e : min n (length sorts) + 1 ≡ n + 1 = omega (arith, h) in e)
    by (inr h) =
        let m = frames_before store in
        take_all (min n (length sorts) + 1) (before store) (omega (arith, h, l, m)) ∙ sym (take_all (n + 1) (before store) (omega (arith, h, l, m)))

variables_same : (f n : ℕ) (x : Frame) → variable_changes f n x x ≡ []
variables_same f n [] = refl
variables_same f n (c ∷ cs) =
    ap (λ (l : List Change). l ++ variable_changes f (n + 1) cs cs) (lines-same (λ k v. change f n k v ∷ []) 0 c) ∙ variables_same f (n + 1) cs

-- nothing has changed where nothing differs
pub frames_same : (f : ℕ) (fs : List Frame) → frame_changes f fs fs ≡ []
frames_same f [] = refl
frames_same f (x ∷ xs) = ap (λ (l : List Change). l ++ frame_changes (f + 1) xs xs) (variables_same f 0 x) ∙ frames_same (f + 1) xs
