-- How many cells each variable has.
use Rattle.std.proofs.Common.{◌≡◌, ℕ, ◌<◌, List, [], ◌∷◌, ◌++◌, length, get_or, set, map, take, ◌≤◌, Bool, true, false, if◌then◌else◌, ℤ, pos, Result, Ok, Err, OnOk, OnErr, refl, sym, ap, ◌∙◌, subst, arith}
use Rattle.std.proofs.lemmas.List.{length-map, length-set, length-replicate, get_or_push, map-append, get_or-map as get_or-map_within, length-take, take-take, take-set-le}
use Rattle.std.proofs.Math.Seq.{take-append_seam, take-length, map-set_same}
use Rattle.std.proofs.Math.ListN.{get_or-map}
use Rattle.pml_program.specs.declared.program.Slot.{Slot}
use Rattle.promela_process.specs.declared.place.Place.{Place}
use Rattle.promela_process.specs.Store.{Frame, frame_at, cells_at, size_at, with_number, zeros}
use Rattle.pml_store.specs.Writing.{Contents, HasPlace, stored, before}
use Rattle.pml_store.proofs.Back.{has_cell, before_set}
use Rattle.promela_run.specs.State.{size, Stand, State, youngest_cell, with_frame}
use Rattle.promela_run.specs.declared.live_channel.LiveChannel.{LiveChannel}
use Rattle.run_start.specs.declared.started.Started.{Started}
use Rattle.run_start.specs.Shown.{shape, idle, shown}
use Rattle.run_start.specs.Known.{Keeps}

pub shape-with_number : (fs : List Frame) (p : Place) (v : ℤ) → shape (with_number fs p v) ≡ shape fs
shape-with_number fs p v =
    map-set_same (map length) fs p.frame (set (frame_at fs p.frame) p.variable (set (cells_at fs p) p.cell v)) []
    (map-set_same length (frame_at fs p.frame) p.variable (set (cells_at fs p) p.cell v) [] (length-set (cells_at fs p) p.cell v))

-- the size of a variable is known by the shape alone
size_in : (fs : List Frame) (o i : ℕ) → get_or (get_or (shape fs) o []) i 0 ≡ size_at fs o i
size_in fs o i = ap (λ (x : List ℕ). get_or x i 0) (get_or-map (map length) fs o []) ∙ get_or-map length (frame_at fs o) i []

pub same_size : (fs gs : List Frame) (o i : ℕ) → shape gs ≡ shape fs → size_at gs o i ≡ size_at fs o i
same_size fs gs o i e = sym (size_in gs o i) ∙ ap (λ (x : List (List ℕ)). get_or (get_or x o []) i 0) e ∙ size_in fs o i

-- nothing is done
pub keeps-all : (a : Started) → Keeps a a
keeps-all a = record { shape = refl; sorts = refl; older = refl; channels = take-length a.channels.items; past = refl; most = refl }

-- of what is kept, the front is kept
front_kept : (a b c : List LiveChannel) → take (length a) b ≡ a → take (length b) c ≡ b → take (length a) c ≡ a
front_kept a b c h k =
    let n : length a ≤ length b = omega (arith, ap length h, length-take (length a) b) in
    sym (take-take (length a) (length b) c n) ∙ ap (take (length a)) k ∙ h

pub keeps-then : (a b c : Started) → Keeps a b → Keeps b c → Keeps a c
keeps-then a b c h k = record {
  shape = k.shape ∙ h.shape;
  sorts = k.sorts ∙ h.sorts;
  older = ap (λ (n : ℕ). take n c.store.frames) (sym (ap length h.sorts)) ∙ k.older ∙ ap (λ (n : ℕ). take n b.store.frames) (ap length h.sorts) ∙ h.older;
  channels = front_kept a.channels.items b.channels.items c.channels.items h.channels k.channels;
  past = k.past ∙ h.past;
  most = k.most ∙ h.most;
}

-- a store or a refused one
pub set_keeps : {E : Type 0} (r : Result (Unit {0}) E) (a : Started) (new : Contents) (p : Place) (v : ℤ) → HasPlace a.store.frames p → p.frame ≡ length a.sorts.items →
    OnOk r (new ≡ stored a.store p v) → OnErr r (new ≡ a.store) → Keeps a (record a { store = new })
set_keeps (Ok u) a new p v there young h k = record {
  shape = ap (λ (x : Contents). shape x.frames) h ∙ shape-with_number a.store.frames p v;
  sorts = refl;
  older = ap (λ (x : Contents). take (length a.sorts.items) x.frames) h
      ∙ take-set-le (length a.sorts.items) a.store.frames p.frame (set (frame_at a.store.frames p.frame) p.variable (set (cells_at a.store.frames p) p.cell v)) (omega (arith, young));
  channels = take-length a.channels.items;
  past = ap before h ∙ before_set a.store p v there;
  most = ap (λ (x : Contents). x.most) h;
}
set_keeps (Err e) a new p v there young h k = record {
  shape = ap (λ (x : Contents). shape x.frames) k;
  sorts = refl;
  older = ap (λ (x : Contents). take (length a.sorts.items) x.frames) k;
  channels = take-length a.channels.items;
  past = ap before k;
  most = ap (λ (x : Contents). x.most) k;
}

-- a channel more, or a refused one
same_front : (b : Bool) (xs ys : List LiveChannel) (c : LiveChannel) → ys ≡ (if b then xs ++ c ∷ [] else xs) → take (length xs) ys ≡ xs
same_front true xs ys c e = ap (take (length xs)) e ∙ take-append_seam xs (c ∷ [])
same_front false xs ys c e = ap (take (length xs)) e ∙ take-length xs

pub push_keeps : (b : Bool) (a new : Started) (c : LiveChannel) → new.store ≡ a.store → new.sorts.items ≡ a.sorts.items →
    new.channels.items ≡ (if b then a.channels.items ++ c ∷ [] else a.channels.items) → Keeps a new
push_keeps b a new c s k e = record {
  shape = ap (λ (x : Contents). shape x.frames) s;
  sorts = k;
  older = ap (λ (x : Contents). take (length a.sorts.items) x.frames) s;
  channels = same_front b a.channels.items new.channels.items c e;
  past = ap before s;
  most = ap (λ (x : Contents). x.most) s;
}

size_now : (old new : Started) (i n : ℕ) → Keeps old new → size_at old.store.frames (length old.sorts.items) i ≡ n → size_at new.store.frames (length new.sorts.items) i ≡ n
size_now old new i n k e =
    ap (λ (m : ℕ). size_at new.store.frames m i) (ap length k.sorts) ∙ same_size old.store.frames new.store.frames (length old.sorts.items) i k.shape ∙ e

-- as many processes are shown as there are, and those
pub counted : (s : Started) → length (shown s).stands ≡ length s.sorts.items
counted s = length-map s.sorts.items idle

pub idle_sorts : (ks : List ℕ) → map (λ (y : Stand). y.sort) (map idle ks) ≡ ks
idle_sorts [] = refl
idle_sorts (k ∷ ks) = ap (λ (x : List ℕ). k ∷ x) (idle_sorts ks)

pub same_sorts : (a b : Started) (ys : List Stand) (ks : List ℕ) → (shown a).stands ≡ (shown b).stands ++ ys → map (λ (y : Stand). y.sort) ys ≡ ks → a.sorts.items ≡ b.sorts.items ++ ks
same_sorts a b ys ks e h =
    sym (idle_sorts a.sorts.items) ∙ ap (map (λ (y : Stand). y.sort)) e ∙ map-append (λ (y : Stand). y.sort) (shown b).stands ys
    ∙ ap (λ (x : List ℕ). x ++ map (λ (y : Stand). y.sort) ys) (idle_sorts b.sorts.items) ∙ ap (λ (x : List ℕ). b.sorts.items ++ x) h

pub place_is : (s : Started) (v c : ℕ) → ◌≡◌ {A = Place} (youngest_cell (shown s) v c) (record { frame = length s.sorts.items; variable = v; cell = c })
place_is s v c = ap (λ (n : ℕ). record { frame = n; variable = v; cell = c }) (counted s)

pub cell_there : (old new : Started) (i cell n : ℕ) → Keeps old new → size_at old.store.frames (length old.sorts.items) i ≡ n → cell < n → HasPlace new.store.frames (youngest_cell (shown new) i cell)
cell_there old new i cell n k e h =
    let s = size_now old new i n k e in
    subst (HasPlace new.store.frames) (sym (place_is new i cell)) (has_cell new.store.frames (record { frame = length new.sorts.items; variable = i; cell = cell }) (omega (arith, s, h)))

pub variable_there : (old new : Started) (ss : List Slot) (i : ℕ) (d : Slot) → Keeps old new → map length (frame_at old.store.frames (length old.sorts.items)) ≡ map size ss → i < length ss → size_at new.store.frames (length new.sorts.items) i ≡ size (get_or ss i d)
variable_there old new ss i d k e h =
    size_now old new i (size (get_or ss i d)) k
    (sym (get_or-map length (frame_at old.store.frames (length old.sorts.items)) i []) ∙ ap (λ (x : List ℕ). get_or x i 0) e ∙ get_or-map_within size ss i d 0 h)

-- the frame of a frame that is added
zero_sizes : (ns : List ℕ) → map length (zeros ns) ≡ ns
zero_sizes [] = refl
zero_sizes (n ∷ ns) = ap (λ (x : ℕ). x ∷ map length (zeros ns)) (length-replicate n (pos 0)) ∙ ap (λ (x : List ℕ). n ∷ x) (zero_sizes ns)

-- the sizes in a frame that is added
pub added_sizes : (ss : List Slot) (b n : State) → n ≡ with_frame ss b → length b.frames ≡ length b.stands → map length (frame_at n.frames (length n.stands)) ≡ map size ss
added_sizes ss b n e l =
    ap (λ (x : State). map length (frame_at x.frames (length x.stands))) e
    ∙ ap (λ (x : Frame). map length x) (get_or_push b.frames (zeros (map size ss)) [] (length b.stands) l) ∙ zero_sizes (map size ss)

pub frame_sizes : (ss : List Slot) (old new : Started) → shown new ≡ with_frame ss (shown old) → length old.store.frames ≡ length old.sorts.items → map length (frame_at new.store.frames (length new.sorts.items)) ≡ map size ss
frame_sizes ss old new e l =
    subst (λ (n : ℕ). map length (frame_at new.store.frames n) ≡ map size ss) (counted new) (added_sizes ss (shown old) (shown new) e (l ∙ sym (counted old)))

pub added_shape : (ss : List Slot) (b n : State) → n ≡ with_frame ss b → shape n.frames ≡ shape b.frames ++ map size ss ∷ []
added_shape ss b n e =
    ap (λ (x : State). shape x.frames) e ∙ map-append (map length) b.frames (zeros (map size ss) ∷ [])
    ∙ ap (λ (x : List ℕ). shape b.frames ++ x ∷ []) (zero_sizes (map size ss))

-- they stay
pub sizes_now : (old new : Started) (ss : List Slot) → Keeps old new → map length (frame_at old.store.frames (length old.sorts.items)) ≡ map size ss → map length (frame_at new.store.frames (length new.sorts.items)) ≡ map size ss
sizes_now old new ss k e =
    let o = length old.sorts.items in
    ap (λ (m : ℕ). map length (frame_at new.store.frames m)) (ap length k.sorts)
    ∙ sym (get_or-map (map length) new.store.frames o []) ∙ ap (λ (x : List (List ℕ)). get_or x o []) k.shape ∙ get_or-map (map length) old.store.frames o [] ∙ e

pub OnOk-always : {A E : Type 0} {P : Type 0} (r : Result A E) → P → OnOk r P
OnOk-always (Ok x) h = h
OnOk-always (Err e) h = tt

pub OnOk-then : {A E : Type 0} {P Q : Type 0} (r : Result A E) → (P → Q) → OnOk r P → OnOk r Q
OnOk-then (Ok x) f h = f h
OnOk-then (Err x) f h = tt

pub OnErr-always : {A E : Type 0} {P : Type 0} (r : Result A E) → P → OnErr r P
OnErr-always (Ok x) h = tt
OnErr-always (Err e) h = h
