-- What the cells of a variable hold when it is begun.
use Rattle.std.proofs.Common.{◌≡◌, ℕ, zero, suc, ◌+◌, ◌<◌, ◌≤◌, ◌%◌, Bool, true, false, ◌&&◌, nat_eq, nat_lt, if◌then◌else◌, List, length, ℤ, pos, Result, Ok, Err, IfOk, refl, sym, ap, ◌∙◌, arith, ◌-◌, [], ◌∷◌, ◌++◌, replicate, subst, append_assoc}
use Rattle.std.proofs.lemmas.List.{append-nil, length_push}
use Rattle.std.proofs.Math.Logic.{⊎_elim}
use Rattle.std.proofs.lemmas.Bool.{cases_eq, eq-eqb, ne_eqb}
use Rattle.diagnostics.specs.declared.fault.Fault.{Fault}
use Rattle.diagnostics.specs.declared.fault.Fault.TheVariants.{TooManyChannels}
use Rattle.pml_program.specs.declared.form.Form.{Form}
use Rattle.pml_program.specs.declared.form.Form.TheVariants as form
use Rattle.pml_program.specs.declared.expr.Expr.{Expr}
use Rattle.pml_program.specs.declared.program.Initial.{Initial}
use Rattle.pml_program.specs.declared.program.Initial.TheVariants as i
use Rattle.pml_program.specs.declared.program.Slot.{Slot}
use Rattle.pml_program.specs.declared.program.Fields.{Fields}
use Rattle.promela_process.specs.Expressions.{◌>>=◌}
use Rattle.promela_process.specs.declared.place.Place.{Place}
use Rattle.promela_process.specs.Store.{Frame, size_at, number_at, with_number, ChannelState}
use Rattle.pml_store.specs.Writing.{HasPlace, is_same}
use Rattle.pml_store.proofs.Back.{has_cell}
use Rattle.pml_store.proofs.OnePlace.{number_at-with_number}
use Rattle.promela_run.specs.State.{size, slot_of, fields_of, leaf, last_field, Stand, State, unread, read_in, youngest_cell, initial_value, with_value, with_values, cell_begun, fields_begun, variable_begun, with_channel, empty_channel}
use Rattle.run_layout.proofs.Leading.{stays}
use Rattle.promela_run.specs.declared.live_channel.LiveChannel.{LiveChannel}
use Rattle.run_start.specs.Known.{is_of, IsPlain}
use Rattle.run_start.proofs.Chaining.{chain, chain_any, weaker}
use Rattle.run_start.proofs.Shapes.{same_size, shape-with_number}

-- ---- one write

apart : (a b c : Bool) → (a && b) ≡ false → (a && (b && c)) ≡ false
apart true b c h = rw h refl
apart false b c h = refl

write_elsewhere : (fs : List Frame) (p q : Place) (v : ℤ) → HasPlace fs p → is_same p q ≡ false → number_at (with_number fs p v) q ≡ number_at fs q
write_elsewhere fs p q v h e = let w = number_at-with_number fs p q v h in rw e at w

write_here : (fs : List Frame) (p q : Place) (v : ℤ) → HasPlace fs p → is_same p q ≡ true → number_at (with_number fs p v) q ≡ v
write_here fs p q v h e = let w = number_at-with_number fs p q v h in rw e at w

-- the youngest frame's variable has so many cells
abbrev Has : State → ℕ → ℕ → Type 0
Has b v z = size_at b.frames (length b.stands) v ≡ z

there : (b : State) (v c z : ℕ) → Has b v z → c < z → HasPlace b.frames (youngest_cell b v c)
there b v c z s h = has_cell b.frames (youngest_cell b v c) (omega (arith, s, h))

still : (b : State) (v c z : ℕ) (x : ℤ) → Has b v z → size_at (with_number b.frames (youngest_cell b v c) x) (length b.stands) v ≡ z
still b v c z x s = same_size b.frames (with_number b.frames (youngest_cell b v c) x) (length b.stands) v (shape-with_number b.frames (youngest_cell b v c) x) ∙ s

last : (a b c : Bool) → c ≡ false → (a && (b && c)) ≡ false
last true true c h = h
last true false c h = refl
last false b c h = refl

other_cell : (b : State) (v c d : ℕ) → nat_eq c d ≡ false → is_same (youngest_cell b v c) (youngest_cell b v d) ≡ false
other_cell b v c d h = last (nat_eq (length b.stands) (length b.stands)) (nat_eq v v) (nat_eq c d) h

same_cell : (b : State) (v c : ℕ) → is_same (youngest_cell b v c) (youngest_cell b v c) ≡ true
same_cell b v c = rw (eq-eqb (length b.stands) (length b.stands) refl, eq-eqb v v refl, eq-eqb c c refl) refl

-- ---- a number in each cell

values_elsewhere : (v : ℕ) (x : ℤ) (c n z : ℕ) (b : State) (q : Place) → Has b v z → c + n ≤ z → is_of b v q ≡ false → number_at (with_values v x c n b).frames q ≡ number_at b.frames q
values_elsewhere v x c zero z b q s h e = refl
values_elsewhere v x c (suc n) z b q s h e =
    values_elsewhere v x (c + 1) n z (with_value v c x b) q (still b v c z x s) (omega (arith, h)) e
    ∙ write_elsewhere b.frames (youngest_cell b v c) q x (there b v c z s (omega (arith, h))) (apart (nat_eq (length b.stands) q.frame) (nat_eq v q.variable) (nat_eq c q.cell) e)

values_before : (v : ℕ) (x : ℤ) (c n z d : ℕ) (b : State) → Has b v z → c + n ≤ z → d < c → number_at (with_values v x c n b).frames (youngest_cell b v d) ≡ number_at b.frames (youngest_cell b v d)
values_before v x c zero z d b s h l = refl
values_before v x c (suc n) z d b s h l =
    values_before v x (c + 1) n z d (with_value v c x b) (still b v c z x s) (omega (arith, h)) (omega (arith, l))
    ∙ write_elsewhere b.frames (youngest_cell b v c) (youngest_cell b v d) x (there b v c z s (omega (arith, h))) (other_cell b v c d (ne_eqb c d (λ e. omega (arith, l, e))))

values_here : (v : ℕ) (x : ℤ) (c n z d : ℕ) (b : State) → Has b v z → c + n ≤ z → c ≤ d → d < c + n → number_at (with_values v x c n b).frames (youngest_cell b v d) ≡ x
values_here v x c zero z d b s h l m = absurd (omega (arith, l, m))
values_here v x c (suc n) z d b s h l m =
    ⊎_elim
    (λ (e : c ≡ d). rw (← e) (values_before v x (c + 1) n z c (with_value v c x b) (still b v c z x s) (omega (arith, h)) (omega arith)
    ∙ write_here b.frames (youngest_cell b v c) (youngest_cell b v c) x (there b v c z s (omega (arith, h))) (same_cell b v c)))
    (λ k. values_here v x (c + 1) n z d (with_value v c x b) (still b v c z x s) (omega (arith, h)) (omega (arith, l, k)) (omega (arith, m)))
    (cases_eq c d)

-- each cell holds what the type keeps of the one value
pub each_holds : (ts : List Fields) (s : Slot) (e : Expr) (v c : ℕ) (b : State) → Has b v (size s) → c < size s → IfOk (variable_begun ts (i.Value e) s v b) (λ n. initial_value e s.form (read_in b) ≡ Ok (number_at n.frames (youngest_cell b v c)))
each_holds ts s e v c b h l = from (initial_value e s.form (read_in b))
  where
    from : (r : Result ℤ Fault) → IfOk {T = State} (r >>= λ x. Ok (with_values v x 0 (size s) b)) (λ n. r ≡ Ok (number_at n.frames (youngest_cell b v c)))
    from (Ok x) = ap Ok (sym (values_here v x 0 (size s) (size s) c b h (omega arith) (omega arith) (omega (arith, l))))
    from (Err f) = tt

-- ---- no other cell changes

record Kept (b : State) (v z : ℕ) (q : Place) (n : State) : Type 0 where
  stands : n.stands ≡ b.stands
  has : size_at n.frames (length n.stands) v ≡ z
  number : number_at n.frames q ≡ number_at b.frames q

kept-after : (r : Result State Fault) (b m : State) (v z : ℕ) (q : Place) → Kept b v z q m → IfOk r (Kept m v z q) → IfOk r (Kept b v z q)
kept-after (Ok n) b m v z q h k = record { stands = k.stands ∙ h.stands; has = k.has; number = k.number ∙ h.number }
kept-after (Err f) b m v z q h k = tt

kept-write : (v c z : ℕ) (x : ℤ) (b : State) (q : Place) → Has b v z → c < z → is_same (youngest_cell b v c) q ≡ false → Kept b v z q (with_value v c x b)
kept-write v c z x b q s h e = record {
  stands = refl;
  has = still b v c z x s;
  number = write_elsewhere b.frames (youngest_cell b v c) q x (there b v c z s h) e;
}

kept-channel : (t : Bool) (v c z : ℕ) (x : ℤ) (m : List LiveChannel) (b : State) (q : Place) → Kept b v z q (with_value v c x b) → IfOk {T = State} (if t then Ok (record b { frames = with_number b.frames (youngest_cell b v c) x; channels = m }) else Err TooManyChannels) (Kept b v z q)
kept-channel true v c z x m b q k = record { stands = refl; has = k.has; number = k.number }
kept-channel false v c z x m b q k = tt

cell_kept : (x : Initial) (f : Form) (v c z : ℕ) (b : State) (q : Place) → Has b v z → c < z → is_same (youngest_cell b v c) q ≡ false → IfOk (cell_begun x f v c b) (Kept b v z q)
cell_kept i.Zero f v c z b q s h e = record { stands = refl; has = s; number = refl }
cell_kept (i.Value w) f v c z b q s h e =
    chain_any (Kept b v z q) (initial_value w f unread) (λ n. Ok (with_value v c n b)) (λ n. kept-write v c z n b q s h e)
cell_kept (i.Channel capacity types) f v c z b q s h e =
    kept-channel (nat_lt (length b.channels) 255) v c z (pos (length b.channels + 1)) _ b q (kept-write v c z (pos (length b.channels + 1)) b q s h e)

-- the variable's cells from this one on are no such place
abbrev Past : State → ℕ → ℕ → Place → Type 0
Past b v c q = (k : ℕ) → c ≤ k → is_same (youngest_cell b v k) q ≡ false

past_now : (b m : State) (v c : ℕ) (q : Place) → m.stands ≡ b.stands → Past b v c q → Past m v (c + 1) q
past_now b m v c q e p k h = ap (λ (ys : List Stand). is_same (record { frame = length ys; variable = v; cell = k }) q) e ∙ p k (omega (arith, h))

fields_kept : (ts : List Fields) (s : Slot) (v c n z : ℕ) (b : State) (q : Place) → Has b v z → c + n ≤ z → Past b v c q → IfOk (fields_begun ts s v c n b) (Kept b v z q)
fields_kept ts s v c zero z b q h l e = record { stands = refl; has = h; number = refl }
fields_kept ts s v c (suc n) z b q h l e =
    chain (Kept b v z q) (Kept b v z q) (cell_begun (leaf ts s c).initial (leaf ts s c).form v c b) (fields_begun ts s v (c + 1) n) (cell_kept (leaf ts s c).initial (leaf ts s c).form v c z b q h (omega (arith, l)) (e c (omega arith)))
    (λ m k. kept-after (fields_begun ts s v (c + 1) n m) b m v z q k (fields_kept ts s v (c + 1) n z m q k.has (omega (arith, l)) (past_now b m v c q k.stands e)))

number_of : (r : Result State Fault) (b : State) (v z : ℕ) (q : Place) → IfOk r (Kept b v z q) → IfOk r (λ n. number_at n.frames q ≡ number_at b.frames q)
number_of (Ok n) b v z q k = k.number
number_of (Err f) b v z q k = tt

pub others_hold : (ts : List Fields) (x : Initial) (s : Slot) (v : ℕ) (b : State) (q : Place) → Has b v (size s) → is_of b v q ≡ false → IfOk (variable_begun ts x s v b) (λ n. number_at n.frames q ≡ number_at b.frames q)
others_hold ts i.Zero s v b q h e = number_of (fields_begun ts s v 0 (size s) b) b v (size s) q (fields_kept ts s v 0 (size s) (size s) b q h (omega arith) (λ k l. apart (nat_eq (length b.stands) q.frame) (nat_eq v q.variable) (nat_eq k q.cell) e))
others_hold ts (i.Value w) s v b q h e =
    chain_any (λ n. number_at n.frames q ≡ number_at b.frames q) (initial_value w s.form (read_in b)) (λ n. Ok (with_values v n 0 (size s) b))
    (λ n. values_elsewhere v n 0 (size s) (size s) b q h (omega arith) e)
others_hold ts (i.Channel capacity types) s v b q h e = number_of (fields_begun ts s v 0 (size s) b) b v (size s) q (fields_kept ts s v 0 (size s) (size s) b q h (omega arith) (λ k l. apart (nat_eq (length b.stands) q.frame) (nat_eq v q.variable) (nat_eq k q.cell) e))

-- ---- no initialiser

no_fields : (ts : List Fields) (f : Form) → IsPlain f → fields_of ts f ≡ []
no_fields ts (form.Plain w) h = refl
no_fields ts (form.Unsigned w) h = refl
no_fields ts (form.Struct o) h = absurd h
no_fields ts form.Unknown h = refl

last_plain : (ts : List Fields) (n : ℕ) (s : Slot) (c : ℕ) → IsPlain s.form → last_field ts n s c ≡ s
last_plain ts n s c h = stays ts n s c (ap (λ (fs : List Slot). slot_of fs c) (no_fields ts s.form h))

fields_nothing : (ts : List Fields) (s : Slot) (v c n : ℕ) (b : State) → IsPlain s.form → s.initial ≡ i.Zero → fields_begun ts s v c n b ≡ Ok b
fields_nothing ts s v c zero b h e = refl
fields_nothing ts s v c (suc n) b h e =
    let l : leaf ts s c ≡ s = last_plain ts (length ts) s (c % s.stride) h in
    let x : (leaf ts s c).initial ≡ i.Zero = ap (λ (f : Slot). f.initial) l ∙ e in
    rw x (fields_nothing ts s v (c + 1) n b h e)

pub nothing_begins : (ts : List Fields) (s : Slot) (v : ℕ) (b : State) → IsPlain s.form → s.initial ≡ i.Zero → variable_begun ts s.initial s v b ≡ Ok b
nothing_begins ts s v b h e = ap (λ (x : Initial). variable_begun ts x s v b) e ∙ fields_nothing ts s v 0 (size s) b h e

-- ---- a channel for each cell

record Numbered (b : State) (v c z : ℕ) (m : ChannelState) (n : State) : Type 0 where
  stands : n.stands ≡ b.stands
  has : size_at n.frames (length n.stands) v ≡ z
  channels : n.channels ≡ b.channels ++ record { frame = length b.stands; channel = m } ∷ []
  number : number_at n.frames (youngest_cell b v c) ≡ pos (length b.channels + 1)

numbered : (t : Bool) (v c z : ℕ) (m : ChannelState) (b : State) → Has b v z → c < z → IfOk {T = State} (if t then Ok (record b { frames = with_number b.frames (youngest_cell b v c) (pos (length b.channels + 1)); channels = b.channels ++ record { frame = length b.stands; channel = m } ∷ [] }) else Err TooManyChannels) (Numbered b v c z m)
numbered true v c z m b s h = record {
  stands = refl;
  has = still b v c z (pos (length b.channels + 1)) s;
  channels = refl;
  number = write_here b.frames (youngest_cell b v c) (youngest_cell b v c) (pos (length b.channels + 1)) (there b v c z s h) (same_cell b v c);
}
numbered false v c z m b s h = tt

-- a cell of a channel variable
IsChannel : List Fields → Slot → ℕ → List Form → Type 0
IsChannel ts s capacity types = (c v : ℕ) (b : State) → cell_begun (leaf ts s c).initial (leaf ts s c).form v c b ≡ with_channel v c (empty_channel capacity types) b

is_channel : (ts : List Fields) (s : Slot) (capacity : ℕ) (types : List Form) → IsPlain s.form → s.initial ≡ i.Channel capacity types → IsChannel ts s capacity types
unfolding IsChannel
is_channel ts s capacity types h e = λ c v b.
    ap (λ (f : Slot). cell_begun f.initial f.form v c b) (last_plain ts (length ts) s (c % s.stride) h) ∙ ap (λ (x : Initial). cell_begun x s.form v c b) e

first_numbered : (ts : List Fields) (s : Slot) (v c z capacity : ℕ) (types : List Form) (b : State) → Has b v z → c < z → IsChannel ts s capacity types → IfOk (cell_begun (leaf ts s c).initial (leaf ts s c).form v c b) (Numbered b v c z (empty_channel capacity types))
unfolding IsChannel
first_numbered ts s v c z capacity types b h l e =
    subst (λ (r : Result State Fault). IfOk r (Numbered b v c z (empty_channel capacity types))) (sym (e c v b)) (numbered (nat_lt (length b.channels) 255) v c z (empty_channel capacity types) b h l)

channels_are : (ts : List Fields) (s : Slot) (v c n z capacity : ℕ) (types : List Form) (b : State) → Has b v z → c + n ≤ z → IsChannel ts s capacity types → IfOk (fields_begun ts s v c n b) (λ m. m.channels ≡ b.channels ++ replicate n (record { frame = length b.stands; channel = empty_channel capacity types }))
channels_are ts s v c zero z capacity types b h l e = sym (append-nil b.channels)
channels_are ts s v c (suc n) z capacity types b h l e =
    let o : ℕ → LiveChannel = λ frame. record { frame = frame; channel = empty_channel capacity types } in
    chain (Numbered b v c z (empty_channel capacity types)) (λ m. m.channels ≡ b.channels ++ replicate (suc n) (o (length b.stands)))
    (cell_begun (leaf ts s c).initial (leaf ts s c).form v c b) (fields_begun ts s v (c + 1) n) (first_numbered ts s v c z capacity types b h (omega (arith, l)) e)
    (λ m k. weaker (λ a. a.channels ≡ m.channels ++ replicate n (o (length m.stands))) (λ a. a.channels ≡ b.channels ++ replicate (suc n) (o (length b.stands))) (fields_begun ts s v (c + 1) n m)
    (λ a g. g ∙ ap (λ (ys : List Stand). m.channels ++ replicate n (o (length ys))) k.stands ∙ ap (λ (cs : List LiveChannel). cs ++ replicate n (o (length b.stands))) k.channels ∙ append_assoc b.channels (o (length b.stands) ∷ []) (replicate n (o (length b.stands))))
    (channels_are ts s v (c + 1) n z capacity types m k.has (omega (arith, l)) e))

numbers_are : (ts : List Fields) (s : Slot) (v c n z d capacity : ℕ) (types : List Form) (b : State) → Has b v z → c + n ≤ z → c ≤ d → d < c + n → IsChannel ts s capacity types → IfOk (fields_begun ts s v c n b) (λ m. number_at m.frames (youngest_cell b v d) ≡ pos (length b.channels + (d - c) + 1))
numbers_are ts s v c zero z d capacity types b h l p q e = absurd (omega (arith, p, q))
numbers_are ts s v c (suc n) z d capacity types b h l p q e =
    chain (Numbered b v c z (empty_channel capacity types)) (λ m. number_at m.frames (youngest_cell b v d) ≡ pos (length b.channels + (d - c) + 1))
    (cell_begun (leaf ts s c).initial (leaf ts s c).form v c b) (fields_begun ts s v (c + 1) n) (first_numbered ts s v c z capacity types b h (omega (arith, l)) e)
    (λ m k. ⊎_elim (here m k) (λ (f : c ≡ d → ⊥). later m k f (numbers_are ts s v (c + 1) n z d capacity types m k.has (omega (arith, l)) (omega (arith, p, f)) (omega (arith, q)) e)) (cases_eq c d))
  where
    Answer : State → Type 0
    Answer a = number_at a.frames (youngest_cell b v d) ≡ pos (length b.channels + (d - c) + 1)

    here : (m : State) → Numbered b v c z (empty_channel capacity types) m → c ≡ d → IfOk (fields_begun ts s v (c + 1) n m) Answer
    here m k f =
        let past : Past m v (c + 1) (youngest_cell b v c) =
        λ j g. ap (λ (ys : List Stand). is_same (record { frame = length ys; variable = v; cell = j }) (youngest_cell b v c)) k.stands ∙ other_cell b v j c (ne_eqb j c (λ t. omega (arith, g, t))) in
        let x : length b.channels + 1 ≡ length b.channels + (d - c) + 1 = omega (arith, f) in
        weaker (Kept m v z (youngest_cell b v c)) Answer (fields_begun ts s v (c + 1) n m)
        (λ a g. ap (λ (j : ℕ). number_at a.frames (youngest_cell b v j)) (sym f) ∙ g.number ∙ k.number ∙ ap pos x)
        (fields_kept ts s v (c + 1) n z m (youngest_cell b v c) k.has (omega (arith, l)) past)

    later : (m : State) → Numbered b v c z (empty_channel capacity types) m → (c ≡ d → ⊥) → IfOk (fields_begun ts s v (c + 1) n m) (λ a. number_at a.frames (youngest_cell m v d) ≡ pos (length m.channels + (d - (c + 1)) + 1)) → IfOk (fields_begun ts s v (c + 1) n m) Answer
    later m k f r =
        let y = ap length k.channels ∙ length_push b.channels (record { frame = length b.stands; channel = empty_channel capacity types }) in
        let x : length m.channels + (d - (c + 1)) + 1 ≡ length b.channels + (d - c) + 1 = omega (arith, y, f, p) in
        weaker (λ a. number_at a.frames (youngest_cell m v d) ≡ pos (length m.channels + (d - (c + 1)) + 1)) Answer (fields_begun ts s v (c + 1) n m)
        (λ a g. ap (λ (ys : List Stand). number_at a.frames (record { frame = length ys; variable = v; cell = d })) (sym k.stands) ∙ g ∙ ap pos x)
        r

variable_channels : (ts : List Fields) (s : Slot) (v capacity : ℕ) (types : List Form) (b : State) (P : State → Type 0) → s.initial ≡ i.Channel capacity types → IfOk (fields_begun ts s v 0 (size s) b) P → IfOk (variable_begun ts s.initial s v b) P
variable_channels ts s v capacity types b P e h =
    subst (λ (r : Result State Fault). IfOk r P) (sym (ap (λ (x : Initial). variable_begun ts x s v b) e)) h

pub channels_begin : (ts : List Fields) (s : Slot) (v capacity : ℕ) (types : List Form) (b : State) → size_at b.frames (length b.stands) v ≡ size s → IsPlain s.form → s.initial ≡ i.Channel capacity types → IfOk (variable_begun ts s.initial s v b) (λ n. n.channels ≡ b.channels ++ replicate (size s) (record { frame = length b.stands; channel = empty_channel capacity types }))
channels_begin ts s v capacity types b h p e =
    variable_channels ts s v capacity types b _ e (channels_are ts s v 0 (size s) (size s) capacity types b h (omega arith) (is_channel ts s capacity types p e))

pub channels_numbered : (ts : List Fields) (s : Slot) (v c capacity : ℕ) (types : List Form) (b : State) → size_at b.frames (length b.stands) v ≡ size s → IsPlain s.form → s.initial ≡ i.Channel capacity types → c < size s → IfOk (variable_begun ts s.initial s v b) (λ n. number_at n.frames (youngest_cell b v c) ≡ pos (length b.channels + c + 1))
channels_numbered ts s v c capacity types b h p e l =
    let x : length b.channels + (c - 0) + 1 ≡ length b.channels + c + 1 = omega arith in
    variable_channels ts s v capacity types b (λ n. number_at n.frames (youngest_cell b v c) ≡ pos (length b.channels + c + 1)) e
    (weaker (λ n. number_at n.frames (youngest_cell b v c) ≡ pos (length b.channels + (c - 0) + 1)) (λ n. number_at n.frames (youngest_cell b v c) ≡ pos (length b.channels + c + 1)) (fields_begun ts s v 0 (size s) b) (λ n g. g ∙ ap pos x)
    (numbers_are ts s v 0 (size s) (size s) c capacity types b h (omega arith) (omega arith) (omega (arith, l)) (is_channel ts s capacity types p e)))
