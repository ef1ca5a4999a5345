-- No more is kept than the model says.
use Rattle.std.proofs.Common.{◌≡◌, ℕ, zero, suc, ◌+◌, ◌-◌, ◌*◌, ◌%◌, ◌<◌, ◌≤◌, min, max, sum, nat_eq, ltb, nat_lt, Bool, true, false, if◌then◌else◌, List, [], ◌∷◌, ◌++◌, length, map, length-append, ℤ, pos, Option, None, Some, IfSome, Result, Ok, Err, IfOk, OnOk, refl, sym, ap, ◌∙◌, subst, arith}
use Rattle.std.specs.Prelude.{slice_get}
use Rattle.std.specs.List.{AllByRecursion}
use Rattle.std.proofs.lemmas.Bool.{ltb-true}
use Rattle.std.proofs.lemmas.List.{length_push}
use Rattle.std.proofs.lemmas.List.Sums.{sum_by-cons}
use Rattle.std.proofs.Math.Nat.{mul-le-mul_right, le-max_left, le-max_right}
use Rattle.diagnostics.specs.declared.fault.Fault.{Fault}
use Rattle.diagnostics.specs.declared.fault.Fault.TheVariants.{TooManyChannels}
use Rattle.diagnostics.specs.declared.stop.Stop.{Stop}
use Rattle.pml_program.specs.declared.form.Form.{Form}
use Rattle.pml_program.specs.declared.form.Form.TheVariants as form
use Rattle.pml_program.specs.declared.program.Initial.{Initial}
use Rattle.pml_program.specs.declared.program.Initial.TheVariants as i
use Rattle.pml_program.specs.declared.program.Slot.{Slot}
use Rattle.pml_program.specs.declared.program.Fields.{Fields}
use Rattle.pml_program.specs.declared.program.Proctype.{Proctype}
use Rattle.pml_program.specs.declared.program.Program.{Program}
use Rattle.promela_process.specs.Store.{Frame, with_number, ChannelState}
use Rattle.pml_store.specs.Writing.{flat, joined}
use Rattle.promela_run.specs.State.{size, slot_of, cell_of, fields_at, fields_of, last_field, leaf, Stand, State, begins_at, youngest_joined as joins, nothing, unread, read_in, youngest_cell, initial_value, with_value, with_values, with_channel, empty_channel, cell_begun, fields_begun, variable_begun, variables_begun, with_frame, frame_begun, variables_at, process_begun, sort_begun, sorts_begun, first_state}
use Rattle.promela_run.specs.declared.live_channel.LiveChannel.{LiveChannel}
use Rattle.run_start.specs.Shown.{Begins, shape}
use Rattle.run_start.specs.Bound.{cells_of, largest, most_cells, room_by, room_of, room_of_fields, room_of_processes, most_room, room, AreBounded}
use Rattle.promela_run.specs.Statements.{channels_made, with_arguments, created}
use Rattle.run_start.specs.Starting.{IsDeclared}
use Rattle.run_start.proofs.Chaining.{chain, chain_any}
use Rattle.run_layout.specs.Tables.{slots_of}
use Rattle.run_start.specs.Known.{with_process}

-- ---- the cells

pub cells_sum : (ss : List Slot) → sum (map size ss) ≡ cells_of ss
cells_sum [] = refl
cells_sum (s ∷ ss) = sum_by-cons (λ x. x) (size s) (map size ss) ∙ ap (λ (n : ℕ). size s + n) (cells_sum ss)

abbrev total : List (List ℕ) → ℕ
total [] = 0
total (ns ∷ nss) = sum ns + total nss

flat_count : (f : Frame) → length (flat f) ≡ sum (map length f)
flat_count [] = refl
flat_count (c ∷ cs) = omega (arith, length-append c (flat cs), sum_by-cons (λ x. x) (length c) (map length cs), flat_count cs)

joined_count : (fs : List Frame) → length (joined fs) ≡ total (shape fs)
joined_count [] = refl
joined_count (f ∷ fs) = omega (arith, length-append (flat f) (joined fs), flat_count f, joined_count fs)

variables_within : (qs : List Proctype) (k : ℕ) → cells_of (slots_of (slice_get qs k)) ≤ largest qs
variables_within [] k = omega arith
variables_within (q ∷ qs) zero = le-max_left (cells_of q.variables) (largest qs)
variables_within (q ∷ qs) (suc k) = omega (arith, variables_within qs k, le-max_right (cells_of q.variables) (largest qs))

sorts_within : (p : Program) (ks : List ℕ) → total (map (λ k. map size (variables_at p k)) ks) ≤ length ks * largest p.proctypes
sorts_within p [] = omega arith
sorts_within p (k ∷ ks) = omega (arith, cells_sum (variables_at p k), variables_within p.proctypes k, sorts_within p ks)

-- no more cells than the model says
pub cells_within : (p : Program) (fs : List Frame) (ks : List ℕ) → IsDeclared p fs ks → length (joined fs) ≤ cells_of p.globals + length ks * largest p.proctypes
cells_within p fs ks d = omega (arith, joined_count fs ∙ ap total d.sizes, cells_sum p.globals, sorts_within p ks)

-- there is room for a process more
pub room_for : (p : Program) (fs : List Frame) (ks : List ℕ) (k most : ℕ) → IsDeclared p fs ks → length ks < 255 → most ≡ most_cells p → length (joined fs) + cells_of (variables_at p k) ≤ most
room_for p fs ks k most d few e =
    let n : (length ks + 1) * largest p.proctypes ≤ 255 * largest p.proctypes = mul-le-mul_right (largest p.proctypes) (omega (arith, few)) in
    omega (arith, cells_within p fs ks d, variables_within p.proctypes k, n, e)

-- ---- the channels

abbrev Fits : ℕ → State → Type 0
Fits n b = (length b.channels ≤ 255) × AllByRecursion (λ m. m ≤ n) (map room b.channels)

all_push : (n : ℕ) (cs : List LiveChannel) (c : LiveChannel) → AllByRecursion (λ m. m ≤ n) (map room cs) → room c ≤ n → AllByRecursion (λ m. m ≤ n) (map room (cs ++ c ∷ []))
all_push n [] c h r = (r, tt)
all_push n (d ∷ cs) c h r = (h.0, all_push n cs c h.1 r)

channel_fits : (n v c : ℕ) (m : ChannelState) (b : State) → m.capacity * length m.types ≤ n → Fits n b → IfOk (with_channel v c m b) (Fits n)
channel_fits n v c m b r h = cases (nat_lt (length b.channels) 255) refl
  where
    new : LiveChannel
    new = record { frame = length b.stands; channel = m }

    cases : (t : Bool) → nat_lt (length b.channels) 255 ≡ t →
        IfOk {T = State} (if t then Ok (record b { frames = with_number b.frames (youngest_cell b v c) (pos (length b.channels + 1)); channels = b.channels ++ new ∷ [] }) else Err TooManyChannels) (Fits n)
    cases true e = (omega (arith, ltb-true (length b.channels) 255 e, length_push b.channels new), all_push n b.channels new h.1 r)
    cases false e = tt

least : (n capacity types : ℕ) → capacity * types ≤ n → min capacity 65535 * types ≤ n
least n capacity types h =
    let m : min capacity 65535 * types ≤ capacity * types = mul-le-mul_right types (omega arith) in
    omega (arith, h, m)

cell_fits : (n : ℕ) (x : Initial) (f : Form) (v c : ℕ) (b : State) → room_by x ≤ n → Fits n b → IfOk (cell_begun x f v c b) (Fits n)
cell_fits n i.Zero f v c b r h = h
cell_fits n (i.Value e) f v c b r h = chain_any (Fits n) (initial_value e f unread) (λ m. Ok (with_value v c m b)) (λ m. h)
cell_fits n (i.Channel capacity types) f v c b r h = channel_fits n v c (empty_channel capacity types) b (least n capacity (length types) r) h

-- ---- the field that has a cell is one of the model's

abbrev HasRoom : ℕ → Slot → Type 0
HasRoom n f = room_by f.initial ≤ n

either : (n : ℕ) (t : Bool) (f : Slot) (rest : Option Slot) → HasRoom n f → IfSome rest (HasRoom n) → IfSome (if t then Some f else rest) (HasRoom n)
either n true f rest h k = h
either n false f rest h k = k

left_of : (n a b : ℕ) → max a b ≤ n → a ≤ n
left_of n a b h = omega (arith, h, le-max_left a b)

right_of : (n a b : ℕ) → max a b ≤ n → b ≤ n
right_of n a b h = omega (arith, h, le-max_right a b)

found_room : (n : ℕ) (fs : List Slot) (cell : ℕ) → room_of fs ≤ n → IfSome (slot_of fs cell) (HasRoom n)
found_room n [] cell h = tt
found_room n (f ∷ fs) cell h =
    either n (ltb cell (size f)) f (slot_of fs (cell - size f)) (left_of n (room_by f.initial) (room_of fs) h) (found_room n fs (cell - size f) (right_of n (room_by f.initial) (room_of fs) h))

fields_room : (n : ℕ) (ts : List Fields) (o : ℕ) → room_of_fields ts ≤ n → room_of (fields_at ts o) ≤ n
fields_room n [] o h = omega arith
fields_room n (t ∷ ts) o h = pick (nat_eq o t.owner) (left_of n (room_of t.fields) (room_of_fields ts) h) (fields_room n ts o (right_of n (room_of t.fields) (room_of_fields ts) h))
  where
    pick : (b : Bool) → room_of t.fields ≤ n → room_of (fields_at ts o) ≤ n → room_of (if b then t.fields else fields_at ts o) ≤ n
    pick true g k = g
    pick false g k = k

type_room : (n : ℕ) (ts : List Fields) (f : Form) → room_of_fields ts ≤ n → room_of (fields_of ts f) ≤ n
type_room n ts (form.Struct o) h = fields_room n ts o h
type_room n ts (form.Plain w) h = omega arith
type_room n ts (form.Unsigned w) h = omega arith
type_room n ts form.Unknown h = omega arith

after_room : (n : ℕ) (ts : List Fields) (k : ℕ) (s : Slot) (cell : ℕ) (o : Option Slot) → ((f : Slot) (c : ℕ) → HasRoom n f → HasRoom n (last_field ts k f c)) → HasRoom n s → IfSome o (HasRoom n) → HasRoom n (elim o as (λ _. Slot) [ None ↦ s | Some f ↦ last_field ts k f (cell % f.stride) ])
after_room n ts k s cell None more e g = e
after_room n ts k s cell (Some f) more e g = more f (cell % f.stride) g

last_room : (n : ℕ) (ts : List Fields) (k : ℕ) (s : Slot) (cell : ℕ) → room_of_fields ts ≤ n → HasRoom n s → HasRoom n (last_field ts k s cell)
last_room n ts zero s cell h e = e
last_room n ts (suc k) s cell h e =
    after_room n ts k s (cell_of (fields_of ts s.form) cell) (slot_of (fields_of ts s.form) cell) (λ f c g. last_room n ts k f c h g) e (found_room n (fields_of ts s.form) cell (type_room n ts s.form h))

leaf_room : (n : ℕ) (ts : List Fields) (s : Slot) (cell : ℕ) → room_of_fields ts ≤ n → HasRoom n s → HasRoom n (leaf ts s cell)
leaf_room n ts s cell h e = last_room n ts (length ts) s (cell % s.stride) h e

-- ---- variables

module _ (n : ℕ) (ts : List Fields) (fields : room_of_fields ts ≤ n) where
  fields_fit : (s : Slot) (v c k : ℕ) (b : State) → HasRoom n s → Fits n b → IfOk (fields_begun ts s v c k b) (Fits n)
  fields_fit s v c zero b r h = h
  fields_fit s v c (suc k) b r h =
      chain (Fits n) (Fits n) (cell_begun (leaf ts s c).initial (leaf ts s c).form v c b) (fields_begun ts s v (c + 1) k)
      (cell_fits n (leaf ts s c).initial (leaf ts s c).form v c b (leaf_room n ts s c fields r) h) (λ m g. fields_fit s v (c + 1) k m r g)

  values_fit : (v : ℕ) (x : ℤ) (c k : ℕ) (b : State) → Fits n b → Fits n (with_values v x c k b)
  values_fit v x c zero b h = h
  values_fit v x c (suc k) b h = values_fit v x (c + 1) k (with_value v c x b) h

  variable_fits : (x : Initial) (s : Slot) (v : ℕ) (b : State) → HasRoom n s → Fits n b → IfOk (variable_begun ts x s v b) (Fits n)
  variable_fits i.Zero s v b r h = fields_fit s v 0 (size s) b r h
  variable_fits (i.Value e) s v b r h = chain_any (Fits n) (initial_value e s.form (read_in b)) (λ m. Ok (with_values v m 0 (size s) b)) (λ m. values_fit v m 0 (size s) b h)
  variable_fits (i.Channel capacity types) s v b r h = fields_fit s v 0 (size s) b r h

  variables_fit : (ss : List Slot) (v : ℕ) (b : State) → room_of ss ≤ n → Fits n b → IfOk (variables_begun ts ss v b) (Fits n)
  variables_fit [] v b r h = h
  variables_fit (s ∷ ss) v b r h =
      chain (Fits n) (Fits n) (variable_begun ts s.initial s v b) (variables_begun ts ss (v + 1)) (variable_fits s.initial s v b (left_of n (room_by s.initial) (room_of ss) r) h)
      (λ m g. variables_fit ss (v + 1) m (right_of n (room_by s.initial) (room_of ss) r) g)

  arguments_fit : (v : ℕ) (ss : List Slot) (xs : List ℤ) (b : State) → Fits n b → Fits n (with_arguments v ss xs b)
  arguments_fit v ss [] b h = h
  arguments_fit v [] (x ∷ xs) b h = h
  arguments_fit v (s ∷ ss) (x ∷ xs) b h = arguments_fit (v + 1) ss xs (with_value v 0 _ b) h

  created_fits : (y : Stand) (ss : List Slot) (xs : List ℤ) (b : State) → room_of ss ≤ n → Fits n b → IfOk (created ts y ss xs b) (Fits n)
  created_fits y ss xs b r h = cases (nat_lt 255 (length b.channels + channels_made ts ss))
    where
      cases : (t : Bool) → IfOk {T = State} (if t then Err TooManyChannels else variables_begun ts ss 0 (with_arguments 0 ss xs (with_process y ss b))) (Fits n)
      cases true = tt
      cases false = variables_fit ss 0 (with_arguments 0 ss xs (with_process y ss b)) r (arguments_fit 0 ss xs (with_process y ss b) h)

-- ---- the first state

process_room : (n : ℕ) (qs : List Proctype) (k : ℕ) → room_of_processes qs ≤ n → room_of (slots_of (slice_get qs k)) ≤ n
process_room n [] k h = omega arith
process_room n (q ∷ qs) zero h = left_of n (room_of q.variables) (room_of_processes qs) h
process_room n (q ∷ qs) (suc k) h = process_room n qs k (right_of n (room_of q.variables) (room_of_processes qs) h)

module _ (p : Program) where
  abbrev most : ℕ
  most = most_room p

  globals_room : room_of p.globals ≤ most
  globals_room = le-max_left (room_of p.globals) (max (room_of_fields p.typedefs) (room_of_processes p.proctypes))

  others_room : max (room_of_fields p.typedefs) (room_of_processes p.proctypes) ≤ most
  others_room = le-max_right (room_of p.globals) (max (room_of_fields p.typedefs) (room_of_processes p.proctypes))

  typedefs_room : room_of_fields p.typedefs ≤ most
  typedefs_room = left_of most (room_of_fields p.typedefs) (room_of_processes p.proctypes) others_room

  locals_room : (k : ℕ) → room_of (variables_at p k) ≤ most
  locals_room k = process_room most p.proctypes k (right_of most (room_of_fields p.typedefs) (room_of_processes p.proctypes) others_room)

  process_fits : (k : ℕ) (b : State) → Fits most b → IfOk (process_begun p k b) (Fits most)
  process_fits k b h = cases (nat_lt (length b.stands) 255)
    where
      one : State
      one = with_frame (variables_at p k) (joins (begins_at p k) b)

      cases : (t : Bool) → IfOk {T = State} (if t then variables_begun p.typedefs (variables_at p k) 0 one else Ok b) (Fits most)
      cases true = variables_fit most p.typedefs typedefs_room (variables_at p k) 0 one (locals_room k) h
      cases false = h

  sort_fits : (k n : ℕ) (b : State) → Fits most b → IfOk (sort_begun p k n b) (Fits most)
  sort_fits k zero b h = h
  sort_fits k (suc n) b h = chain (Fits most) (Fits most) (process_begun p k b) (sort_begun p k n) (process_fits k b h) (λ m g. sort_fits k n m g)

  sorts_fit : (k : ℕ) (qs : List Proctype) (b : State) → Fits most b → IfOk (sorts_begun p k qs b) (Fits most)
  sorts_fit k [] b h = h
  sorts_fit k (q ∷ qs) b h = chain (Fits most) (Fits most) (sort_begun p k q.starts b) (sorts_begun p (k + 1) qs) (sort_fits k q.starts b h) (λ m g. sorts_fit (k + 1) qs m g)

  first_fits : IfOk (first_state p) (Fits most)
  first_fits =
      chain (Fits most) (Fits most) (frame_begun p.typedefs p.globals (nothing p)) (sorts_begun p 0 p.proctypes)
      (variables_fit most p.typedefs typedefs_room p.globals 0 (with_frame p.globals (nothing p)) globals_room (omega arith, tt)) (λ m g. sorts_fit 0 p.proctypes m g)

  pub first_bounded : (b : State) → Ok b ≡ first_state p → AreBounded p b.channels
  first_bounded b e =
      let f = subst (λ (r : Result State Fault). IfOk r (Fits most)) (sym e) first_fits in
      record { few = f.0; small = f.1 }

  -- a process more
  pub created_bounded : (k : ℕ) (y : Stand) (q : Proctype) (xs : List ℤ) (old new : State) (r : Result (Unit {0}) Stop) → slice_get p.proctypes k ≡ Some q → AreBounded p old.channels →
      Begins (created p.typedefs y q.variables xs old) r new → OnOk r (AreBounded p new.channels)
  created_bounded k y q xs old new r e h = by (created p.typedefs y q.variables xs old) r (created_fits most p.typedefs typedefs_room y q.variables xs old room_q (h.few, h.small))
    where
      room_q : room_of q.variables ≤ most
      room_q = subst (λ (o : Option Proctype). room_of (slots_of o) ≤ most) e (locals_room k)

      by : (x : Result State Fault) (r : Result (Unit {0}) Stop) → IfOk x (Fits most) → Begins x r new → OnOk r (AreBounded p new.channels)
      by (Ok b) (Ok u) f g = let m = subst (Fits most) (sym g) f in record { few = m.0; small = m.1 }
      by (Err x) (Ok u) f g = absurd g
      by x (Err s) f g = tt
