-- The value lines of a step are those of its changes.
use Rattle.std.proofs.Common.{◌≡◌, ℕ, zero, suc, ◌+◌, Bool, true, false, if◌then◌else◌, List, [], ◌∷◌, ◌++◌, append-nil, slice_get, Option, Some, None, ℤ, refl, sym, ap, ◌∙◌, arith}
use Rattle.std.specs.Prelude.{codes, option_map}
use Rattle.std.specs.List.{filter, flat_map}
use Rattle.std.specs.Ordering.{int_eq}
use Rattle.std.proofs.lemmas.List.Elements.{filter-append}
use Rattle.std.proofs.lemmas.List.Concat.{flat_map-append}
use Rattle.pml_program.specs.declared.program.Slot.{Slot}
use Rattle.pml_program.specs.declared.program.Program.{Program}
use Rattle.promela_process.specs.Store.{Cells, Frame}
use Rattle.run_values.specs.declared.changed.Change.{Change}
use Rattle.promela_run.specs.Lines.{Owner, cell_line, each_change, variable_lines, owner_lines, value_lines, process_owner, process_owners, owners, heading_of}
use Rattle.run_values.specs.Changed.{change, variable_changes, frame_changes, changes, process_in, wanted_of, wanted_changes, slot_line, sort_line, value_line}
use Rattle.run_values.proofs.Flat.{each_change-none}
use Rattle.run_layout.specs.Tables.{slots_of}

none_either : (b : Bool) → ◌≡◌ {A = List ℕ} (if b then [] else []) []
none_either true = refl
none_either false = refl

module _ (p : Program) (ks : List ℕ) (globals locals : Bool) where
  abbrev wanted : Change → Bool
  wanted c = wanted_of globals locals (process_in c.place.frame)

  abbrev lines : List Change → List ℕ
  lines cs = flat_map (value_line p ks) (wanted_changes globals locals cs)

  lines-append : (xs ys : List Change) → lines (xs ++ ys) ≡ lines xs ++ lines ys
  lines-append xs ys = ap (flat_map (value_line p ks)) (filter-append wanted xs ys) ∙ flat_map-append (value_line p ks) (filter wanted xs) (filter wanted ys)

  lines_of_one : (c : Change) → lines (c ∷ []) ≡ (if wanted c then value_line p ks c else [])
  lines_of_one c = by (wanted c)
    where
      by : (b : Bool) → flat_map (value_line p ks) (if b then c ∷ [] else []) ≡ (if b then value_line p ks c else [])
      by true = append-nil (value_line p ks c)
      by false = refl

  cells : (f n k : ℕ) (xs ys : Cells) (g : ℕ → ℤ → List ℕ) → ((i : ℕ) (v : ℤ) → lines (change f n i v ∷ []) ≡ g i v) → lines (each_change (λ i v. change f n i v ∷ []) k xs ys) ≡ each_change g k xs ys
  cells f n k [] ys g h = refl
  cells f n k (x ∷ xs) [] g h = refl
  cells f n k (x ∷ xs) (y ∷ ys) g h =
      lines-append (if int_eq x y then [] else change f n k y ∷ []) (each_change (λ i v. change f n i v ∷ []) (k + 1) xs ys)
      ∙ ap (λ (l : List ℕ). l ++ lines (each_change (λ i v. change f n i v ∷ []) (k + 1) xs ys)) (by (int_eq x y))
      ∙ ap (λ (l : List ℕ). (if int_eq x y then [] else g k y) ++ l) (cells f n (k + 1) xs ys g h)
    where
      by : (b : Bool) → lines (if b then [] else change f n k y ∷ []) ≡ (if b then [] else g k y)
      by true = refl
      by false = h k y

  -- of a variable of an owner that is there
  abbrev by_slot : Owner → Option Slot → ℕ → ℤ → List ℕ
  by_slot o None k v = []
  by_slot o (Some s) k v = cell_line p o s k v

  abbrev by_owner : Option Owner → ℕ → ℕ → ℤ → List ℕ
  by_owner None n k v = []
  by_owner (Some o) n k v = by_slot o (slice_get o.slots n) k v

  no_variables : (f n : ℕ) (x y : Frame) → ((i k : ℕ) (v : ℤ) → lines (change f (n + i) k v ∷ []) ≡ []) → lines (variable_changes f n x y) ≡ []
  no_variables f n [] y h = refl
  no_variables f n (x ∷ xs) [] h = refl
  no_variables f n (x ∷ xs) (y ∷ ys) h =
      let z : n ≡ n + 0 = omega arith in
      let more : (i : ℕ) → n + 1 + i ≡ n + suc i = (λ i. omega arith) in
      lines-append (each_change (λ i v. change f n i v ∷ []) 0 x y) (variable_changes f (n + 1) xs ys)
      ∙ ap (λ (l : List ℕ). l ++ lines (variable_changes f (n + 1) xs ys))
      (cells f n 0 x y (λ i v. []) (λ i v. ap (λ (m : ℕ). lines (change f m i v ∷ [])) z ∙ h 0 i v) ∙ each_change-none (λ i v. []) 0 x y (λ i v. refl))
      ∙ no_variables f (n + 1) xs ys (λ i k v. ap (λ (m : ℕ). lines (change f m k v ∷ [])) (more i) ∙ h (suc i) k v)

  variables : (f n : ℕ) (o : Owner) (ss : List Slot) (x y : Frame) → ((i k : ℕ) (v : ℤ) → lines (change f (n + i) k v ∷ []) ≡ by_slot o (slice_get ss i) k v) → lines (variable_changes f n x y) ≡ variable_lines (cell_line p o) ss x y
  variables f n o [] x y h = no_variables f n x y (λ i k v. h i k v)
  variables f n o (s ∷ ss) [] y h = refl
  variables f n o (s ∷ ss) (x ∷ xs) [] h = refl
  variables f n o (s ∷ ss) (x ∷ xs) (y ∷ ys) h =
      let z : n ≡ n + 0 = omega arith in
      let more : (i : ℕ) → n + 1 + i ≡ n + suc i = (λ i. omega arith) in
      lines-append (each_change (λ i v. change f n i v ∷ []) 0 x y) (variable_changes f (n + 1) xs ys)
      ∙ ap (λ (l : List ℕ). l ++ lines (variable_changes f (n + 1) xs ys)) (cells f n 0 x y (cell_line p o s) (λ i v. ap (λ (m : ℕ). lines (change f m i v ∷ [])) z ∙ h 0 i v))
      ∙ ap (λ (l : List ℕ). each_change (cell_line p o s) 0 x y ++ l) (variables f (n + 1) o ss xs ys (λ i k v. ap (λ (m : ℕ). lines (change f m k v ∷ [])) (more i) ∙ h (suc i) k v))

  no_frames : (f : ℕ) (b a : List Frame) → ((i n k : ℕ) (v : ℤ) → lines (change (f + i) n k v ∷ []) ≡ []) → lines (frame_changes f b a) ≡ []
  no_frames f [] a h = refl
  no_frames f (x ∷ xs) [] h = refl
  no_frames f (x ∷ xs) (y ∷ ys) h =
      let z : f ≡ f + 0 = omega arith in
      let more : (i : ℕ) → f + 1 + i ≡ f + suc i = (λ i. omega arith) in
      lines-append (variable_changes f 0 x y) (frame_changes (f + 1) xs ys)
      ∙ ap (λ (l : List ℕ). l ++ lines (frame_changes (f + 1) xs ys)) (no_variables f 0 x y (λ i k v. ap (λ (m : ℕ). lines (change m (0 + i) k v ∷ [])) z ∙ h 0 (0 + i) k v))
      ∙ no_frames (f + 1) xs ys (λ i n k v. ap (λ (m : ℕ). lines (change m n k v ∷ [])) (more i) ∙ h (suc i) n k v)

  frames : (f : ℕ) (os : List Owner) (b a : List Frame) → ((i n k : ℕ) (v : ℤ) → lines (change (f + i) n k v ∷ []) ≡ by_owner (slice_get os i) n k v) → lines (frame_changes f b a) ≡ owner_lines p os b a
  frames f [] b a h = no_frames f b a (λ i n k v. h i n k v)
  frames f (o ∷ os) [] a h = refl
  frames f (o ∷ os) (x ∷ xs) [] h = refl
  frames f (o ∷ os) (x ∷ xs) (y ∷ ys) h =
      let z : f ≡ f + 0 = omega arith in
      let first : (i : ℕ) → 0 + i ≡ i = (λ i. omega arith) in
      let more : (i : ℕ) → f + 1 + i ≡ f + suc i = (λ i. omega arith) in
      lines-append (variable_changes f 0 x y) (frame_changes (f + 1) xs ys)
      ∙ ap (λ (l : List ℕ). l ++ lines (frame_changes (f + 1) xs ys))
      (variables f 0 o o.slots x y (λ i k v. ap (λ (m : ℕ). lines (change m (0 + i) k v ∷ [])) z ∙ ap (λ (m : ℕ). lines (change (f + 0) m k v ∷ [])) (first i) ∙ h 0 i k v))
      ∙ ap (λ (l : List ℕ). variable_lines (cell_line p o) o.slots x y ++ l) (frames (f + 1) os xs ys (λ i n k v. ap (λ (m : ℕ). lines (change m n k v ∷ [])) (more i) ∙ h (suc i) n k v))

  -- a line, where it is wanted
  owned : (w : Bool) (heading : List ℕ) (slots : List Slot) (x : Option Slot) (f n k : ℕ) (v : ℤ) → (if w then slot_line p heading x (change f n k v) else []) ≡ by_slot (record { wanted = w; heading = heading; slots = slots }) x k v
  owned w heading slots None f n k v = none_either w
  owned w heading slots (Some s) f n k v = refl

  owner_at : (w : Bool) (i j : ℕ) (qs : List ℕ) → slice_get (process_owners p w i qs) j ≡ option_map (λ (q : ℕ). process_owner w (i + j) (slice_get p.proctypes q)) (slice_get qs j)
  owner_at w i j [] = refl
  owner_at w i zero (q ∷ qs) = let z : i ≡ i + 0 = omega arith in ap (λ (m : ℕ). Some (process_owner w m (slice_get p.proctypes q))) z
  owner_at w i (suc j) (q ∷ qs) =
      let z : i + 1 + j ≡ i + suc j = omega arith in
      owner_at w (i + 1) j qs ∙ ap (λ (m : ℕ). option_map (λ (q : ℕ). process_owner w m (slice_get p.proctypes q)) (slice_get qs j)) z

  of_process : (i n k : ℕ) (v : ℤ) (x : Option ℕ) → (if locals then sort_line p i x (change (suc i) n k v) else []) ≡ by_owner (option_map (λ (q : ℕ). process_owner locals i (slice_get p.proctypes q)) x) n k v
  of_process i n k v None = none_either locals
  of_process i n k v (Some q) =
      let o = slice_get p.proctypes q in
      owned locals (heading_of i o) (slots_of o) (slice_get (slots_of o) n) (suc i) n k v

  each_one : (i n k : ℕ) (v : ℤ) → lines (change i n k v ∷ []) ≡ by_owner (slice_get (owners p globals locals ks) i) n k v
  each_one zero n k v = lines_of_one (change 0 n k v) ∙ owned globals (codes "global ") p.globals (slice_get p.globals n) 0 n k v
  each_one (suc i) n k v =
      let z : i ≡ 0 + i = omega arith in
      lines_of_one (change (suc i) n k v) ∙ of_process i n k v (slice_get ks i)
      ∙ ap (λ (m : ℕ). by_owner (option_map (λ (q : ℕ). process_owner locals m (slice_get p.proctypes q)) (slice_get ks i)) n k v) z
      ∙ sym (ap (λ (o : Option Owner). by_owner o n k v) (owner_at locals 0 i ks))

  pub lines_of_changes : (before after : List Frame) → value_lines p ks before after globals locals ≡ flat_map (value_line p ks) (wanted_changes globals locals (changes before after))
  lines_of_changes before after =
      let first : (i : ℕ) → 0 + i ≡ i = (λ i. omega arith) in
      sym (frames 0 (owners p globals locals ks) before after (λ i n k v. ap (λ (m : ℕ). lines (change m n k v ∷ [])) (first i) ∙ each_one i n k v))
