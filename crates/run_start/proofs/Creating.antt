-- New processes.
use Rattle.std.proofs.Common.{◌≡◌, ℕ, ◌+◌, ◌-◌, ◌<◌, ◌≤◌, List, [], ◌∷◌, ◌++◌, length, get_or, set, take, drop, map, ℤ, pos, min, length-drop, None, false, refl, sym, ap, ◌∙◌, subst, arith}
use Rattle.std.proofs.lemmas.Bool.{cases_lt}
use Rattle.std.proofs.Math.Logic.{⊎_elim}
use Rattle.std.proofs.lemmas.List.{set-get_or, drop_more, length_push, length-map}
use Rattle.std.proofs.Math.Seq.{take-append_seam}
use Rattle.pml_program.specs.declared.program.Slot.{Slot}
use Rattle.promela_process.specs.declared.place.Place.{Place}
use Rattle.promela_process.specs.Store.{Frame, Cells, frame_at, cells_at, with_number, zeros}
use Rattle.pml_store.specs.Writing.{Contents, undone, before, but_last}
use Rattle.promela_run.specs.State.{size, State, youngest_joined, with_value}
use Rattle.promela_run.specs.declared.live_channel.LiveChannel.{LiveChannel}
use Rattle.run_start.specs.declared.started.Started.{Started}
use Rattle.promela_process.specs.Numbers.{clipped}
use Rattle.run_start.specs.Shown.{held, no_program, idle, shown, shape}
use Rattle.promela_run.specs.Statements.{with_arguments}
use Rattle.run_start.specs.Known.{Keeps, with_process}
use Rattle.run_start.proofs.Past.{keeps_past}
use Rattle.run_start.proofs.Shapes.{added_shape, added_sizes, counted, same_sorts}

no_first : (cells : Cells) (x : ℤ) → length cells ≡ 0 → set cells 0 x ≡ cells
no_first [] x e = refl
no_first (c ∷ cells) x e = absurd (omega (arith, e))

-- a variable without a cell holds nothing
pub no_cell : (fs : List Frame) (p : Place) (x : ℤ) → p.cell ≡ 0 → length (cells_at fs p) ≡ 0 → with_number fs p x ≡ fs
no_cell fs p x z e =
    let a : set (cells_at fs p) p.cell x ≡ cells_at fs p = rw z (no_first (cells_at fs p) x e) in
    rw (a, set-get_or (frame_at fs p.frame) p.variable [], set-get_or fs p.frame []) refl

-- an argument more
pub argument_set : (ss : List Slot) (vs : List ℤ) (variable : ℕ) (s : Slot) (b new y : State) → variable < length ss → variable < length vs → s ≡ get_or ss variable s →
    with_arguments variable (drop variable ss) (drop variable vs) b ≡ y → new ≡ with_value variable 0 (clipped s.form (get_or vs variable (pos 0))) b →
    with_arguments (variable + 1) (drop (variable + 1) ss) (drop (variable + 1) vs) new ≡ y
argument_set ss vs variable s b new y h k e f g =
    let d : drop variable ss ≡ s ∷ drop (variable + 1) ss = drop_more ss variable s h ∙ ap (λ (x : Slot). x ∷ drop (variable + 1) ss) (sym e) in
    let n : with_arguments variable (drop variable ss) (drop variable vs) b ≡ with_arguments (variable + 1) (drop (variable + 1) ss) (drop (variable + 1) vs) (with_value variable 0 (clipped s.form (get_or vs variable (pos 0))) b) =
    ap (λ (x : List Slot). with_arguments variable x (drop variable vs) b) d ∙ ap (λ (x : List ℤ). with_arguments variable (s ∷ drop (variable + 1) ss) x b) (drop_more vs variable (pos 0) k) in
    ap (with_arguments (variable + 1) (drop (variable + 1) ss) (drop (variable + 1) vs)) g ∙ sym n ∙ f

no_slots : (variable : ℕ) (ss : List Slot) (vs : List ℤ) (b : State) → length ss ≡ 0 → with_arguments variable ss vs b ≡ b
no_slots variable [] [] b e = refl
no_slots variable [] (v ∷ vs) b e = refl
no_slots variable (s ∷ ss) vs b e = absurd (omega (arith, e))

no_values : (variable : ℕ) (ss : List Slot) (vs : List ℤ) (b : State) → length vs ≡ 0 → with_arguments variable ss vs b ≡ b
no_values variable ss [] b e = refl
no_values variable ss (v ∷ vs) b e = absurd (omega (arith, e))

-- where no variable or no argument is left, all are set
pub all_set : (ss : List Slot) (vs : List ℤ) (variable : ℕ) (b : State) → min (length vs) (length ss) ≤ variable → with_arguments variable (drop variable ss) (drop variable vs) b ≡ b
all_set ss vs variable b h = ⊎_elim
    (λ (k : variable < length vs). no_slots variable (drop variable ss) (drop variable vs) b (length-drop variable ss ∙ omega (arith, h, k)))
    (λ (k : length vs ≤ variable). no_values variable (drop variable ss) (drop variable vs) b (length-drop variable vs ∙ omega (arith, k)))
    (cases_lt variable (length vs))

-- the sizes in the frame of a process that is added
pub process_sizes : (sort : ℕ) (ss : List Slot) (old new : Started) → shown new ≡ with_process (idle sort) ss (shown old) → length old.store.frames ≡ length old.sorts.items + 1 →
    map length (frame_at new.store.frames (length new.sorts.items)) ≡ map size ss
process_sizes sort ss old new e l =
    let many : length (youngest_joined (idle sort) (shown old)).stands ≡ length old.sorts.items + 1 = length_push (shown old).stands (idle sort) ∙ ap (λ (n : ℕ). n + 1) (counted old) in
    subst (λ (n : ℕ). map length (frame_at new.store.frames n) ≡ map size ss) (counted new) (added_sizes ss (youngest_joined (idle sort) (shown old)) (shown new) e (l ∙ sym many))

-- and the frames have one more
pub process_shape : (sort : ℕ) (ss : List Slot) (b n : State) → n ≡ with_process (idle sort) ss b → shape n.frames ≡ shape b.frames ++ map size ss ∷ []
process_shape sort ss b n e = added_shape ss (youngest_joined (idle sort) b) n e

-- and the processes
pub process_sorts : (sort : ℕ) (ss : List Slot) (old new : Started) → shown new ≡ with_process (idle sort) ss (shown old) → new.sorts.items ≡ old.sorts.items ++ sort ∷ []
process_sorts sort ss old new e = same_sorts new old (idle sort ∷ []) (sort ∷ []) (ap (λ (x : State). x.stands) e) refl

-- the log leads back to what there was, and to a frame more
pub past : (sort : ℕ) (ss : List Slot) (old mid new : Started) → shown mid ≡ with_process (idle sort) ss (shown old) → mid.store.written ≡ old.store.written → Keeps mid new →
    (rest : List Frame) × (before new.store ≡ before old.store ++ rest)
past sort ss old mid new e w k =
    let p = keeps_past old.store (zeros (map size ss) ∷ []) in (
      p.0,
      k.past ∙ ap (λ (x : State). undone x.frames mid.store.written) e ∙ ap (λ (ws : List (ℕ × ℤ)). undone (old.store.frames ++ zeros (map size ss) ∷ []) ws) w ∙ p.1,
    )

held_is : (a b : Contents) (cs ds : List LiveChannel) (ks ls : List ℕ) → a.frames ≡ b.frames → cs ≡ ds → ks ≡ ls → held no_program a cs (map idle ks) ≡ held no_program b ds (map idle ls)
held_is a b cs ds ks ls p q r =
    let of : List Frame → List LiveChannel → List ℕ → State = λ fs x zs. record { program = no_program; frames = fs; stands = map idle zs; channels = x; holder = None; lossy = false } in
    ap (λ (fs : List Frame). of fs cs ks) p ∙ ap (λ (x : List LiveChannel). of b.frames x ks) q ∙ ap (of b.frames ds) r

-- without what was added there is what was there
pub dropped : (sort : ℕ) (ss : List Slot) (old mid new last : Started) → shown mid ≡ with_process (idle sort) ss (shown old) → Keeps mid new → length old.store.frames ≡ length old.sorts.items + 1 →
    last.store.frames ≡ but_last new.store.frames → last.channels.items ≡ take (length old.channels.items) new.channels.items →
    last.sorts.items ≡ take (length new.sorts.items - 1) new.sorts.items → shown last ≡ shown old
dropped sort ss old mid new last e k l f g h =
    let added : mid.store.frames ≡ old.store.frames ++ zeros (map size ss) ∷ [] = ap (λ (x : State). x.frames) e in
    let begun : mid.sorts.items ≡ old.sorts.items ++ sort ∷ [] = process_sorts sort ss old mid e in
    let young : length mid.sorts.items ≡ length old.store.frames = ap length begun ∙ length_push old.sorts.items sort ∙ sym l in
    let same : length new.store.frames ≡ length mid.store.frames = sym (length-map new.store.frames (map length)) ∙ ap length k.shape ∙ length-map mid.store.frames (map length) in
    let one : length mid.store.frames ≡ length old.store.frames + 1 = ap length added ∙ length_push old.store.frames (zeros (map size ss)) in
    let last_one : length new.store.frames - 1 ≡ length mid.sorts.items = omega (arith, same, one, young) in
    let made : mid.channels.items ≡ old.channels.items = ap (λ (x : State). x.channels) e in
    let sorts : new.sorts.items ≡ old.sorts.items ++ sort ∷ [] = k.sorts ∙ begun in
    let count : length (old.sorts.items ++ sort ∷ []) - 1 ≡ length old.sorts.items = omega (arith, length_push old.sorts.items sort) in
    held_is last.store old.store last.channels.items old.channels.items last.sorts.items old.sorts.items
    (f ∙ ap (λ (n : ℕ). take n new.store.frames) last_one ∙ k.older ∙ ap (λ (n : ℕ). take n mid.store.frames) young ∙ ap (take (length old.store.frames)) added
    ∙ take-append_seam old.store.frames (zeros (map size ss) ∷ []))
    (g ∙ ap (λ (n : ℕ). take n new.channels.items) (sym (ap length made)) ∙ k.channels ∙ made)
    (h ∙ ap (λ (x : List ℕ). take (length x - 1) x) sorts ∙ ap (λ (n : ℕ). take n (old.sorts.items ++ sort ∷ [])) count ∙ take-append_seam old.sorts.items (sort ∷ []))
