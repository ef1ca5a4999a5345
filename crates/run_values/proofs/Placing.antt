-- The changes by index are the changes by place.
use Rattle.std.proofs.Common.{◌≡◌, ◌⊎◌, inl, inr, ℕ, suc, ◌+◌, ◌-◌, ◌<◌, ◌≤◌, Bool, true, false, if◌then◌else◌, ltb, List, [], ◌∷◌, ◌++◌, map, length, take, Option, Some, None, ℤ, refl, sym, ap, ◌∙◌, arith, length-append}
use Rattle.std.proofs.lemmas.Bool.{lt-ltb, le-ltb, cases_lt}
use Rattle.pml_program.specs.declared.program.Slot.{Slot}
use Rattle.pml_program.specs.declared.program.Program.{Program}
use Rattle.promela_process.specs.declared.place.Place.{Place}
use Rattle.promela_process.specs.Store.{Frame}
use Rattle.pml_store.specs.Writing.{flat, joined}
use Rattle.promela_run.specs.State.{size, cell_of}
use Rattle.run_layout.specs.Numbers.{number_of, number_in}
use Rattle.run_values.specs.declared.changed.Change.{Change}
use Rattle.promela_run.specs.Lines.{Owner, each_change, process_owners, owners}
use Rattle.run_values.specs.Written.{IsFrame, AreFrames, AreDeclared}
use Rattle.run_values.specs.Changed.{change, variable_changes, frame_changes, changes}
use Rattle.run_values.specs.Placed.{place_at, changed_from, changed_at}
use Rattle.run_values.proofs.Flat.{each_change-split, each_change-same, each_change-none, each_change-short, length-flat}

abbrev Made : Type 0
Made = ℕ → ℤ → List Change

-- what stands for a cell: a change of the variable with this number behind the first n, or what follows the owner
abbrev by_number : ℕ → ℕ → List Change → Option ℕ → ℕ → ℤ → List Change
by_number f n rest None cell v = rest
by_number f n rest (Some k) cell v = change f (n + k) cell v ∷ []

abbrev at_number : ℕ → ℕ → (ℕ → List Change) → List Slot → ℕ → ℤ → List Change
at_number f n next ss i v = by_number f n (next (cell_of ss i)) (number_in ss i) (cell_of ss i) v

cell_first : (s : Slot) (ss : List Slot) (i : ℕ) → i < size s → cell_of (s ∷ ss) i ≡ i
cell_first s ss i h = rw (lt-ltb i (size s) h) refl

cell_next : (s : Slot) (ss : List Slot) (m i : ℕ) → m ≡ size s → cell_of (s ∷ ss) (m + i) ≡ cell_of ss i
cell_next s ss m i h =
    let more : size s ≤ m + i = omega arith in
    let left : m + i - size s ≡ i = omega arith in
    rw (le-ltb (m + i) (size s) more, left) refl

number_first : (s : Slot) (ss : List Slot) (i : ℕ) → i < size s → number_in (s ∷ ss) i ≡ Some 0
number_first s ss i h =
    let e : number_of (s ∷ ss) i ≡ 0 = rw (lt-ltb i (size s) h) refl in
    let l : 0 < suc (length ss) = omega arith in
    ap (λ (k : ℕ). if ltb k (suc (length ss)) then Some k else None) e ∙ ap (λ (b : Bool). if b then Some 0 else None) (lt-ltb 0 (suc (length ss)) l)

less_suc : (m n : ℕ) → ltb (suc m) (suc n) ≡ ltb m n
less_suc m n = by (cases_lt m n)
  where
    by : (m < n) ⊎ (n ≤ m) → ltb (suc m) (suc n) ≡ ltb m n
    by (inl h) = lt-ltb (suc m) (suc n) (omega (arith, h)) ∙ sym (lt-ltb m n h)
    by (inr h) = le-ltb (suc m) (suc n) (omega (arith, h)) ∙ sym (le-ltb m n h)

number_next : (s : Slot) (ss : List Slot) (m i : ℕ) → m ≡ size s → number_in (s ∷ ss) (m + i) ≡ (if ltb (number_of ss i) (length ss) then Some (suc (number_of ss i)) else None)
number_next s ss m i h =
    let more : size s ≤ m + i = omega arith in
    let left : m + i - size s ≡ i = omega arith in
    let e : number_of (s ∷ ss) (m + i) ≡ suc (number_of ss i) = rw (le-ltb (m + i) (size s) more, left) refl in
    ap (λ (k : ℕ). if ltb k (suc (length ss)) then Some k else None) e ∙ ap (λ (b : Bool). if b then Some (suc (number_of ss i)) else None) (less_suc (number_of ss i) (length ss))

number_here : (f n : ℕ) (next : ℕ → List Change) (s : Slot) (ss : List Slot) (i : ℕ) (v : ℤ) → i < size s → at_number f n next (s ∷ ss) i v ≡ change f n i v ∷ []
number_here f n next s ss i v h =
    let z : n + 0 ≡ n = omega arith in
    ap (λ (x : Option ℕ). by_number f n (next (cell_of (s ∷ ss) i)) x (cell_of (s ∷ ss) i) v) (number_first s ss i h)
    ∙ ap (λ (c : ℕ). change f (n + 0) c v ∷ []) (cell_first s ss i h)
    ∙ ap (λ (m : ℕ). change f m i v ∷ []) z

shifted : (f n m : ℕ) (rest : List Change) (cell : ℕ) (v : ℤ) (b : Bool) → by_number f n rest (if b then Some (suc m) else None) cell v ≡ by_number f (n + 1) rest (if b then Some m else None) cell v
shifted f n m rest cell v true = let z : n + suc m ≡ n + 1 + m = omega arith in ap (λ (k : ℕ). change f k cell v ∷ []) z
shifted f n m rest cell v false = refl

number_after : (f n : ℕ) (next : ℕ → List Change) (s : Slot) (ss : List Slot) (m i : ℕ) (v : ℤ) → m ≡ size s → at_number f n next (s ∷ ss) (m + i) v ≡ at_number f (n + 1) next ss i v
number_after f n next s ss m i v h =
    let k = number_of ss i in
    let b = ltb k (length ss) in
    ap (λ (x : Option ℕ). by_number f n (next (cell_of (s ∷ ss) (m + i))) x (cell_of (s ∷ ss) (m + i)) v) (number_next s ss m i h)
    ∙ ap (λ (c : ℕ). by_number f n (next c) (if b then Some (suc k) else None) c v) (cell_next s ss m i h)
    ∙ shifted f n k (next (cell_of ss i)) (cell_of ss i) v b

variables_placed : (f n : ℕ) (next : ℕ → ℤ → List Change) (ss : List Slot) (x y : Frame) (g : Made) → IsFrame ss x → IsFrame ss y →
    ((i : ℕ) (v : ℤ) → i < length (flat x) → g i v ≡ at_number f n (λ c. next c v) ss i v) → each_change g 0 (flat x) (flat y) ≡ variable_changes f n x y
variables_placed f n next [] [] y g p q h = refl
variables_placed f n next [] (c ∷ cs) y g p q h = absurd (let e : length c ∷ map length cs ≡ [] = p in cc)
variables_placed f n next (s ∷ ss) [] y g p q h = absurd (let e : [] ≡ size s ∷ map size ss = p in cc)
variables_placed f n next (s ∷ ss) (c ∷ cs) [] g p q h = absurd (let e : [] ≡ size s ∷ map size ss = q in cc)
variables_placed f n next (s ∷ ss) (c ∷ cs) (d ∷ ds) g p q h =
    let p' : length c ∷ map length cs ≡ size s ∷ map size ss = p in
    let q' : length d ∷ map length ds ≡ size s ∷ map size ss = q in
    let m : length c ≡ size s = cc in
    let l : length c ≡ length d = cc in
    let ps : map length cs ≡ map size ss = cc in
    let qs : map length ds ≡ map size ss = cc in
    let all : length (c ++ flat cs) ≡ length c + length (flat cs) = length-append c (flat cs) in
    let one : Made = λ k v. change f n k v ∷ [] in
    let here : (i : ℕ) (v : ℤ) → i < length c → g (0 + i) v ≡ one (0 + i) v = λ i v l.
    (let z : 0 + i ≡ i = omega arith in
    let k : i < length (c ++ flat cs) = omega arith in
    let b : i < size s = omega arith in
    rw z (h i v k ∙ number_here f n (λ (j : ℕ). next j v) s ss i v b)) in
    let after : (i : ℕ) (v : ℤ) → i < length (flat cs) → g (0 + length c + i) v ≡ g (length c + (0 + i)) v = λ i v l.
    (let z : 0 + length c + i ≡ length c + (0 + i) = omega arith in ap (λ (j : ℕ). g j v) z) in
    let rest : (i : ℕ) (v : ℤ) → i < length (flat cs) → g (length c + i) v ≡ at_number f (n + 1) (λ c. next c v) ss i v = λ i v l.
    (let k : length c + i < length (c ++ flat cs) = omega arith in
    h (length c + i) v k ∙ number_after f n (λ (j : ℕ). next j v) s ss (length c) i v m) in
    each_change-split g 0 c d (flat cs) (flat ds) l
    ∙ ap (λ (l : List Change). l ++ each_change g (0 + length c) (flat cs) (flat ds)) (each_change-same g one 0 0 c d here)
    ∙ ap (λ (l : List Change). each_change one 0 c d ++ l)
    (each_change-same g (λ (i : ℕ) (v : ℤ). g (length c + i) v) (0 + length c) 0 (flat cs) (flat ds) after ∙ variables_placed f (n + 1) next ss cs ds (λ (i : ℕ) (v : ℤ). g (length c + i) v) ps qs rest)

-- past the cells of an owner
beyond : (f n : ℕ) (next : ℕ → List Change) (ss : List Slot) (x : Frame) (m i : ℕ) (v : ℤ) → IsFrame ss x → m ≡ length (flat x) → at_number f n next ss (m + i) v ≡ next i
beyond f n next [] [] m i v h e = let z : m + i ≡ i = omega (arith, e) in ap next z
beyond f n next [] (c ∷ cs) m i v h e = absurd (let e : length c ∷ map length cs ≡ [] = h in cc)
beyond f n next (s ∷ ss) [] m i v h e = absurd (let e : [] ≡ size s ∷ map size ss = h in cc)
beyond f n next (s ∷ ss) (c ∷ cs) m i v h e =
    let g : length c ∷ map length cs ≡ size s ∷ map size ss = h in
    let k : length c ≡ size s = cc in
    let r : map length cs ≡ map size ss = cc in
    let z : m + i ≡ length c + (length (flat cs) + i) = omega (arith, e, length-append c (flat cs)) in
    rw z (number_after f n next s ss (length c) (length (flat cs) + i) v k ∙ beyond f (n + 1) next ss cs (length (flat cs)) i v r refl)

opened : (f : ℕ) (o : Owner) (os : List Owner) (i : ℕ) (v : ℤ) → changed_from (place_at f (o ∷ os) i) v ≡ at_number f 0 (λ c. changed_from (place_at (f + 1) os c) v) o.slots i v
opened f o os i v = cases (number_in o.slots i)
  where
    cases : (x : Option ℕ) → changed_from (elim x as (λ _. Option Place) [ None ↦ place_at (f + 1) os (cell_of o.slots i) | Some n ↦ Some (record { frame = f; variable = n; cell = cell_of o.slots i }) ]) v
        ≡ by_number f 0 (changed_from (place_at (f + 1) os (cell_of o.slots i)) v) x (cell_of o.slots i) v
    cases None = refl
    cases (Some k) = let z : k ≡ 0 + k = omega arith in ap (λ (n : ℕ). change f n (cell_of o.slots i) v ∷ []) z

owners_placed : (f : ℕ) (os : List Owner) (b a : List Frame) (g : Made) → AreFrames os b → AreFrames os a → ((i : ℕ) (v : ℤ) → g i v ≡ changed_from (place_at f os i) v) →
    each_change g 0 (joined b) (joined a) ≡ frame_changes f (take (length os) b) a
owners_placed f [] b a g d e h = each_change-none g 0 (joined b) (joined a) h
owners_placed f (o ∷ os) [] a g d e h = refl
owners_placed f (o ∷ os) (x ∷ xs) [] g d e h = each_change-short g 0 (joined (x ∷ xs))
owners_placed f (o ∷ os) (x ∷ xs) (y ∷ ys) g d e h =
    let n : length (flat x) ≡ length (flat y) = length-flat x y (d.0 ∙ sym e.0) in
    let next : ℕ → ℤ → List Change = λ c v. changed_from (place_at (f + 1) os c) v in
    let here : (i : ℕ) (v : ℤ) → i < length (flat x) → g i v ≡ at_number f 0 (λ c. next c v) o.slots i v = λ i v l. (h i v ∙ opened f o os i v) in
    let after : (i : ℕ) (v : ℤ) → i < length (joined xs) → g (0 + length (flat x) + i) v ≡ g (length (flat x) + (0 + i)) v = λ i v l.
    (let z : 0 + length (flat x) + i ≡ length (flat x) + (0 + i) = omega arith in ap (λ (j : ℕ). g j v) z) in
    let rest : (i : ℕ) (v : ℤ) → g (length (flat x) + i) v ≡ changed_from (place_at (f + 1) os i) v = λ i v.
    (h (length (flat x) + i) v ∙ opened f o os (length (flat x) + i) v ∙ beyond f 0 (λ (c : ℕ). next c v) o.slots x (length (flat x)) i v d.0 refl) in
    each_change-split g 0 (flat x) (flat y) (joined xs) (joined ys) n
    ∙ ap (λ (l : List Change). l ++ each_change g (0 + length (flat x)) (joined xs) (joined ys)) (variables_placed f 0 next o.slots x y g d.0 e.0 here)
    ∙ ap (λ (l : List Change). variable_changes f 0 x y ++ l)
    (each_change-same g (λ (i : ℕ) (v : ℤ). g (length (flat x) + i) v) (0 + length (flat x)) 0 (joined xs) (joined ys) after ∙ owners_placed (f + 1) os xs ys (λ (i : ℕ) (v : ℤ). g (length (flat x) + i) v) d.1 e.1 rest)

as_many : (p : Program) (w : Bool) (i : ℕ) (ks : List ℕ) → length (process_owners p w i ks) ≡ length ks
as_many p w i [] = refl
as_many p w i (k ∷ ks) = ap suc (as_many p w (i + 1) ks)

-- where both are states of the model
pub changes_flat : (p : Program) (ks : List ℕ) (b a : List Frame) → AreDeclared p ks b → AreDeclared p ks a → each_change (changed_at p ks) 0 (joined b) (joined a) ≡ changes (take (length ks + 1) b) a
changes_flat p ks b a d e =
    let n : suc (length (process_owners p true 0 ks)) ≡ length ks + 1 = (let m = as_many p true 0 ks in omega (arith, m)) in
    owners_placed 0 (owners p true true ks) b a (changed_at p ks) d e (λ i v. refl) ∙ ap (λ (m : ℕ). changes (take m b) a) n
