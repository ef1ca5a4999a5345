-- The lines by index are the lines by place.
use Rattle.std.proofs.Common.{◌≡◌, ℕ, suc, ◌+◌, ◌-◌, ◌<◌, ◌≤◌, Bool, true, false, if◌then◌else◌, List, [], ◌∷◌, ◌++◌, map, length, slice_get, Option, Some, None, ℤ, refl, sym, ap, ◌∙◌, arith, append_assoc, length-append}
use Rattle.std.proofs.lemmas.Bool.{lt-ltb, le-ltb}
use Rattle.std.specs.Ordering.{int_eq}
use Rattle.pml_program.specs.declared.program.Slot.{Slot}
use Rattle.pml_program.specs.declared.program.Program.{Program}
use Rattle.promela_process.specs.Store.{Frame}
use Rattle.pml_store.specs.Writing.{flat, joined}
use Rattle.promela_run.specs.State.{size, slot_of, cell_of}
use Rattle.promela_run.specs.Lines.{Owner, cell_line, each_change, variable_lines, owner_lines, process_owner, process_owners, owners, value_lines}
use Rattle.run_values.specs.Written.{line_at, IsFrame, AreFrames, IsState, global_owner}
use Rattle.run_layout.specs.Tables.{slots_of}

abbrev Line : Type 0
Line = ℕ → ℤ → List ℕ

abbrev Makes : Type 0 → Type 0
Makes A = ℕ → ℤ → List A

pub each_change-split : {A : Type 0} (f : Makes A) (k : ℕ) (xs ys us vs : List ℤ) → length xs ≡ length ys → each_change f k (xs ++ us) (ys ++ vs) ≡ each_change f k xs ys ++ each_change f (k + length xs) us vs
each_change-split f k [] [] us vs h = ap (λ (n : ℕ). each_change f n us vs) (let e : k ≡ k + 0 = omega arith in e)
each_change-split f k [] (y ∷ ys) us vs h = absurd (let e : 0 ≡ suc (length ys) = h in omega arith)
each_change-split f k (x ∷ xs) [] us vs h = absurd (let e : suc (length xs) ≡ 0 = h in omega arith)
each_change-split f k (x ∷ xs) (y ∷ ys) us vs h =
    let e : length xs ≡ length ys = (let g : suc (length xs) ≡ suc (length ys) = h in omega arith) in
    let n : k + 1 + length xs ≡ k + suc (length xs) = omega arith in
    let rest = each_change-split f (k + 1) xs ys us vs e ∙ ap (λ (m : ℕ). each_change f (k + 1) xs ys ++ each_change f m us vs) n in
    ap (λ (l : List _). (if int_eq x y then [] else f k y) ++ l) rest
    ∙ sym (append_assoc (if int_eq x y then [] else f k y) (each_change f (k + 1) xs ys) (each_change f (k + suc (length xs)) us vs))

pub each_change-same : {A : Type 0} (f g : Makes A) (k m : ℕ) (xs ys : List ℤ) → ((i : ℕ) (v : ℤ) → i < length xs → f (k + i) v ≡ g (m + i) v) → each_change f k xs ys ≡ each_change g m xs ys
each_change-same f g k m [] ys h = refl
each_change-same f g k m (x ∷ xs) [] h = refl
each_change-same f g k m (x ∷ xs) (y ∷ ys) h =
    let a : k + 0 ≡ k = omega arith in
    let b : m + 0 ≡ m = omega arith in
    let z : 0 < suc (length xs) = omega arith in
    let here : f k y ≡ g m y = ap (λ (n : ℕ). f n y) (sym a) ∙ h 0 y z ∙ ap (λ (n : ℕ). g n y) b in
    let after : (i : ℕ) (v : ℤ) → i < length xs → f (k + 1 + i) v ≡ g (m + 1 + i) v = λ i v l.
    (let p : k + 1 + i ≡ k + (i + 1) = omega arith in
    let q : m + (i + 1) ≡ m + 1 + i = omega arith in
    let r : i + 1 < suc (length xs) = omega arith in
    ap (λ (n : ℕ). f n v) p ∙ h (i + 1) v r ∙ ap (λ (n : ℕ). g n v) q) in
    ap (λ (l : List _). (if int_eq x y then [] else l) ++ each_change f (k + 1) xs ys) here
    ∙ ap (λ (l : List _). (if int_eq x y then [] else g m y) ++ l) (each_change-same f g (k + 1) (m + 1) xs ys after)

nothing_either : {A : Type 0} (b : Bool) → ◌≡◌ {A = List A} ((if b then [] else []) ++ []) []
nothing_either true = refl
nothing_either false = refl

pub each_change-none : {A : Type 0} (f : Makes A) (k : ℕ) (xs ys : List ℤ) → ((i : ℕ) (v : ℤ) → f i v ≡ []) → each_change f k xs ys ≡ []
each_change-none f k [] ys h = refl
each_change-none f k (x ∷ xs) [] h = refl
each_change-none f k (x ∷ xs) (y ∷ ys) h =
    ap (λ (l : List _). (if int_eq x y then [] else l) ++ each_change f (k + 1) xs ys) (h k y)
    ∙ ap (λ (l : List _). (if int_eq x y then [] else []) ++ l) (each_change-none f (k + 1) xs ys h)
    ∙ nothing_either (int_eq x y)

pub each_change-short : {A : Type 0} (f : Makes A) (k : ℕ) (xs : List ℤ) → each_change f k xs [] ≡ []
each_change-short f k [] = refl
each_change-short f k (x ∷ xs) = refl

pub length-flat : (x y : Frame) → map length x ≡ map length y → length (flat x) ≡ length (flat y)
length-flat [] [] h = refl
length-flat [] (d ∷ ds) h = absurd (let e : [] ≡ length d ∷ map length ds = h in cc)
length-flat (c ∷ cs) [] h = absurd (let e : length c ∷ map length cs ≡ [] = h in cc)
length-flat (c ∷ cs) (d ∷ ds) h =
    let g : length c ∷ map length cs ≡ length d ∷ map length ds = h in
    let e : length c ≡ length d = cc in
    let t : map length cs ≡ map length ds = cc in
    omega (arith, e, length-flat cs ds t, length-append c (flat cs), length-append d (flat ds))

-- what stands for the cell with an index: a line, or what follows the owner
abbrev at_slot : (f : Slot → ℕ → List ℕ) (next : ℕ → List ℕ) → Option Slot → ℕ → List ℕ
at_slot f next None i = next i
at_slot f next (Some s) i = f s i

slot_in : (f : Slot → ℕ → List ℕ) (next : ℕ → List ℕ) (s : Slot) (ss : List Slot) (i : ℕ) → i < size s → at_slot f next (slot_of (s ∷ ss) i) (cell_of (s ∷ ss) i) ≡ f s i
slot_in f next s ss i h = rw (lt-ltb i (size s) h) refl

slot_after : (f : Slot → ℕ → List ℕ) (next : ℕ → List ℕ) (s : Slot) (ss : List Slot) (n i : ℕ) → n ≡ size s → at_slot f next (slot_of (s ∷ ss) (n + i)) (cell_of (s ∷ ss) (n + i)) ≡ at_slot f next (slot_of ss i) (cell_of ss i)
slot_after f next s ss n i h =
    let more : size s ≤ n + i = omega arith in
    let left : n + i - size s ≡ i = omega arith in
    rw (le-ltb (n + i) (size s) more, left) refl

variables_flat : (f : Slot → ℕ → ℤ → List ℕ) (next : ℕ → ℤ → List ℕ) (ss : List Slot) (x y : Frame) (g : Line) → IsFrame ss x → IsFrame ss y → ((i : ℕ) (v : ℤ) → i < length (flat x) → g i v ≡ at_slot (λ s c. f s c v) (λ c. next c v) (slot_of ss i) (cell_of ss i)) → each_change g 0 (flat x) (flat y) ≡ variable_lines f ss x y
variables_flat f next [] [] y g p q h = refl
variables_flat f next [] (c ∷ cs) y g p q h = absurd (let e : length c ∷ map length cs ≡ [] = p in cc)
variables_flat f next (s ∷ ss) [] y g p q h = absurd (let e : [] ≡ size s ∷ map size ss = p in cc)
variables_flat f next (s ∷ ss) (c ∷ cs) [] g p q h = absurd (let e : [] ≡ size s ∷ map size ss = q in cc)
variables_flat f next (s ∷ ss) (c ∷ cs) (d ∷ ds) g p q h =
    let p' : length c ∷ map length cs ≡ size s ∷ map size ss = p in
    let q' : length d ∷ map length ds ≡ size s ∷ map size ss = q in
    let m : length c ≡ size s = cc in
    let n : length c ≡ length d = cc in
    let ps : map length cs ≡ map size ss = cc in
    let qs : map length ds ≡ map size ss = cc in
    let all : length (c ++ flat cs) ≡ length c + length (flat cs) = length-append c (flat cs) in
    let here : (i : ℕ) (v : ℤ) → i < length c → g (0 + i) v ≡ f s (0 + i) v = λ i v l.
    (let z : 0 + i ≡ i = omega arith in
    let k : i < length (c ++ flat cs) = omega arith in
    let b : i < size s = omega arith in
    rw z (h i v k ∙ slot_in (λ (t : Slot) (n : ℕ). f t n v) (λ (n : ℕ). next n v) s ss i b)) in
    let after : (i : ℕ) (v : ℤ) → i < length (flat cs) → g (0 + length c + i) v ≡ g (length c + (0 + i)) v = λ i v l.
    (let z : 0 + length c + i ≡ length c + (0 + i) = omega arith in ap (λ (n : ℕ). g n v) z) in
    let rest : (i : ℕ) (v : ℤ) → i < length (flat cs) → g (length c + i) v ≡ at_slot (λ s c. f s c v) (λ c. next c v) (slot_of ss i) (cell_of ss i) = λ i v l.
    (let k : length c + i < length (c ++ flat cs) = omega arith in
    h (length c + i) v k ∙ slot_after (λ (t : Slot) (n : ℕ). f t n v) (λ (n : ℕ). next n v) s ss (length c) i m) in
    each_change-split g 0 c d (flat cs) (flat ds) n
    ∙ ap (λ (l : List ℕ). l ++ each_change g (0 + length c) (flat cs) (flat ds)) (each_change-same g (f s) 0 0 c d here)
    ∙ ap (λ (l : List ℕ). each_change (f s) 0 c d ++ l) (each_change-same g (λ (i : ℕ) (v : ℤ). g (length c + i) v) (0 + length c) 0 (flat cs) (flat ds) after ∙ variables_flat f next ss cs ds (λ (i : ℕ) (v : ℤ). g (length c + i) v) ps qs rest)

-- past the cells of an owner
beyond : (f : Slot → ℕ → List ℕ) (next : ℕ → List ℕ) (ss : List Slot) (x : Frame) (n i : ℕ) → IsFrame ss x → n ≡ length (flat x) → at_slot f next (slot_of ss (n + i)) (cell_of ss (n + i)) ≡ next i
beyond f next [] [] n i h e = let z : n + i ≡ i = omega (arith, e) in ap next z
beyond f next [] (c ∷ cs) n i h e = absurd (let e : length c ∷ map length cs ≡ [] = h in cc)
beyond f next (s ∷ ss) [] n i h e = absurd (let e : [] ≡ size s ∷ map size ss = h in cc)
beyond f next (s ∷ ss) (c ∷ cs) n i h e =
    let g : length c ∷ map length cs ≡ size s ∷ map size ss = h in
    let m : length c ≡ size s = cc in
    let r : map length cs ≡ map size ss = cc in
    let z : n + i ≡ length c + (length (flat cs) + i) = omega (arith, e, length-append c (flat cs)) in
    rw z (slot_after f next s ss (length c) (length (flat cs) + i) m ∙ beyond f next ss cs (length (flat cs)) i r refl)

opened : (p : Program) (o : Owner) (os : List Owner) (i : ℕ) (v : ℤ) → line_at p (o ∷ os) i v ≡ at_slot (λ s c. cell_line p o s c v) (λ c. line_at p os c v) (slot_of o.slots i) (cell_of o.slots i)
opened p o os i v = cases (slot_of o.slots i)
  where
    cases : (x : Option Slot) → (elim x as (λ _. List ℕ) [ None ↦ line_at p os (cell_of o.slots i) v | Some s ↦ cell_line p o s (cell_of o.slots i) v ]) ≡ at_slot (λ s c. cell_line p o s c v) (λ c. line_at p os c v) x (cell_of o.slots i)
    cases None = refl
    cases (Some s) = refl

owners_flat : (p : Program) (os : List Owner) (b a : List Frame) (g : Line) → AreFrames os b → AreFrames os a → ((i : ℕ) (v : ℤ) → g i v ≡ line_at p os i v) → each_change g 0 (joined b) (joined a) ≡ owner_lines p os b a
owners_flat p [] b a g d e h = each_change-none g 0 (joined b) (joined a) h
owners_flat p (o ∷ os) [] a g d e h = refl
owners_flat p (o ∷ os) (x ∷ xs) [] g d e h = each_change-short g 0 (joined (x ∷ xs))
owners_flat p (o ∷ os) (x ∷ xs) (y ∷ ys) g d e h =
    let n : length (flat x) ≡ length (flat y) = length-flat x y (d.0 ∙ sym e.0) in
    let here : (i : ℕ) (v : ℤ) → i < length (flat x) → g i v ≡ at_slot (λ s c. cell_line p o s c v) (λ c. line_at p os c v) (slot_of o.slots i) (cell_of o.slots i) = λ i v l. (h i v ∙ opened p o os i v) in
    let after : (i : ℕ) (v : ℤ) → i < length (joined xs) → g (0 + length (flat x) + i) v ≡ g (length (flat x) + (0 + i)) v = λ i v l.
    (let z : 0 + length (flat x) + i ≡ length (flat x) + (0 + i) = omega arith in ap (λ (n : ℕ). g n v) z) in
    let rest : (i : ℕ) (v : ℤ) → g (length (flat x) + i) v ≡ line_at p os i v = λ i v.
    (h (length (flat x) + i) v ∙ opened p o os (length (flat x) + i) v ∙ beyond (λ (s : Slot) (c : ℕ). cell_line p o s c v) (λ (c : ℕ). line_at p os c v) o.slots x (length (flat x)) i d.0 refl) in
    each_change-split g 0 (flat x) (flat y) (joined xs) (joined ys) n
    ∙ ap (λ (l : List ℕ). l ++ each_change g (0 + length (flat x)) (joined xs) (joined ys)) (variables_flat (cell_line p o) (λ (c : ℕ) (v : ℤ). line_at p os c v) o.slots x y g d.0 e.0 here)
    ∙ ap (λ (l : List ℕ). variable_lines (cell_line p o) o.slots x y ++ l) (each_change-same g (λ (i : ℕ) (v : ℤ). g (length (flat x) + i) v) (0 + length (flat x)) 0 (joined xs) (joined ys) after ∙ owners_flat p os xs ys (λ (i : ℕ) (v : ℤ). g (length (flat x) + i) v) d.1 e.1 rest)

processes_wanted : (p : Program) (w u : Bool) (i : ℕ) (ks : List ℕ) (fs : List Frame) → AreFrames (process_owners p w i ks) fs → AreFrames (process_owners p u i ks) fs
processes_wanted p w u i ks [] h = tt
processes_wanted p w u i [] (f ∷ fs) h = tt
processes_wanted p w u i (k ∷ ks) (f ∷ fs) h = (h.0, processes_wanted p w u (i + 1) ks fs h.1)

owners_wanted : (p : Program) (w u x y : Bool) (ks : List ℕ) (fs : List Frame) → AreFrames (owners p w u ks) fs → AreFrames (owners p x y ks) fs
owners_wanted p w u x y ks [] h = tt
owners_wanted p w u x y ks (f ∷ fs) h = (h.0, processes_wanted p u y 0 ks fs h.1)

pub lines_flat : (p : Program) (ks : List ℕ) (b a : List Frame) (before after : List ℤ) (globals locals : Bool) → IsState p ks b before → IsState p ks a after → each_change (line_at p (owners p globals locals ks)) 0 before after ≡ value_lines p ks b a globals locals
lines_flat p ks b a before after globals locals h k =
    let os = owners p globals locals ks in
    let whole = owners_flat p os b a (line_at p os) (owners_wanted p true true globals locals ks b h.declared) (owners_wanted p true true globals locals ks a k.declared) (λ i v. refl) in
    ap (λ (xs : List ℤ). each_change (line_at p os) 0 xs after) (sym h.numbers) ∙ ap (λ (ys : List ℤ). each_change (line_at p os) 0 (joined b) ys) (sym k.numbers) ∙ whole

-- ---- nothing is wanted

variables-none : (f : Slot → ℕ → ℤ → List ℕ) (ss : List Slot) (x y : Frame) → ((s : Slot) (i : ℕ) (v : ℤ) → f s i v ≡ []) → variable_lines f ss x y ≡ []
variables-none f [] x y h = refl
variables-none f (s ∷ ss) [] y h = refl
variables-none f (s ∷ ss) (c ∷ cs) [] h = refl
variables-none f (s ∷ ss) (c ∷ cs) (d ∷ ds) h = ap (λ (l : List ℕ). l ++ variable_lines f ss cs ds) (each_change-none (f s) 0 c d (h s)) ∙ variables-none f ss cs ds h

processes-none : (p : Program) (i : ℕ) (ks : List ℕ) (b a : List Frame) → owner_lines p (process_owners p false i ks) b a ≡ []
processes-none p i [] b a = refl
processes-none p i (k ∷ ks) [] a = refl
processes-none p i (k ∷ ks) (x ∷ xs) [] = refl
processes-none p i (k ∷ ks) (x ∷ xs) (y ∷ ys) =
    let o = process_owner false i (slice_get p.proctypes k) in
    ap (λ (l : List ℕ). l ++ owner_lines p (process_owners p false (i + 1) ks) xs ys) (variables-none (cell_line p o) (slots_of (slice_get p.proctypes k)) x y (λ s c v. refl))
    ∙ processes-none p (i + 1) ks xs ys

pub lines-none : (p : Program) (ks : List ℕ) (b a : List Frame) → value_lines p ks b a false false ≡ []
lines-none p ks [] a = refl
lines-none p ks (x ∷ xs) [] = refl
lines-none p ks (x ∷ xs) (y ∷ ys) =
    ap (λ (l : List ℕ). l ++ owner_lines p (process_owners p false 0 ks) xs ys) (variables-none (cell_line p (global_owner p false)) p.globals x y (λ s c v. refl))
    ∙ processes-none p 0 ks xs ys
