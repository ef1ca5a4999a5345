-- What has no initialiser changes nothing.
use Rattle.std.proofs.Common.{◌≡◌, ℕ, zero, suc, ◌+◌, ◌-◌, ◌%◌, nat_eq, ltb, Bool, true, false, if◌then◌else◌, List, [], ◌∷◌, length, Option, None, Some, IfSome, Ok, refl}
use Rattle.std.proofs.lemmas.Bool.{and_parts}
use Rattle.pml_program.specs.declared.form.Form.{Form}
use Rattle.pml_program.specs.declared.form.Form.TheVariants as form
use Rattle.pml_program.specs.declared.program.Initial.{Initial}
use Rattle.pml_program.specs.declared.program.Initial.TheVariants as i
use Rattle.pml_program.specs.declared.program.Slot.{Slot}
use Rattle.pml_program.specs.declared.program.Fields.{Fields}
use Rattle.promela_run.specs.State.{size, slot_of, cell_of, fields_at, fields_of, last_field, leaf, State, fields_begun}
use Rattle.run_start.specs.Known.{is_zero, are_zero, have_no_initials}

abbrev HasNone : Slot → Type 0
HasNone f = f.initial ≡ i.Zero

zero_is : (x : Initial) → is_zero x ≡ true → x ≡ i.Zero
zero_is i.Zero h = refl
zero_is (i.Value v) h = absurd cc
zero_is (i.Channel capacity types) h = absurd cc

either : (t : Bool) (f : Slot) (rest : Option Slot) → HasNone f → IfSome rest HasNone → IfSome (if t then Some f else rest) HasNone
either true f rest h k = h
either false f rest h k = k

found_none : (fs : List Slot) (cell : ℕ) → are_zero fs ≡ true → IfSome (slot_of fs cell) HasNone
found_none [] cell h = tt
found_none (f ∷ fs) cell h =
    let p = and_parts (is_zero f.initial) (are_zero fs) h in
    either (ltb cell (size f)) f (slot_of fs (cell - size f)) (zero_is f.initial p.0) (found_none fs (cell - size f) p.1)

fields_none : (ts : List Fields) (o : ℕ) → have_no_initials ts ≡ true → are_zero (fields_at ts o) ≡ true
fields_none [] o h = refl
fields_none (t ∷ ts) o h = pick (nat_eq o t.owner) (and_parts (are_zero t.fields) (have_no_initials ts) h).0 (fields_none ts o (and_parts (are_zero t.fields) (have_no_initials ts) h).1)
  where
    pick : (b : Bool) → are_zero t.fields ≡ true → are_zero (fields_at ts o) ≡ true → are_zero (if b then t.fields else fields_at ts o) ≡ true
    pick true g k = g
    pick false g k = k

type_none : (ts : List Fields) (f : Form) → have_no_initials ts ≡ true → are_zero (fields_of ts f) ≡ true
type_none ts (form.Struct o) h = fields_none ts o h
type_none ts (form.Plain w) h = refl
type_none ts (form.Unsigned w) h = refl
type_none ts form.Unknown h = refl

after_none : (ts : List Fields) (n : ℕ) (s : Slot) (cell : ℕ) (o : Option Slot) → ((f : Slot) (c : ℕ) → HasNone f → HasNone (last_field ts n f c)) → HasNone s → IfSome o HasNone → HasNone (elim o as (λ _. Slot) [ None ↦ s | Some f ↦ last_field ts n f (cell % f.stride) ])
after_none ts n s cell None k e g = e
after_none ts n s cell (Some f) k e g = k f (cell % f.stride) g

last_none : (ts : List Fields) (n : ℕ) (s : Slot) (cell : ℕ) → have_no_initials ts ≡ true → HasNone s → HasNone (last_field ts n s cell)
last_none ts zero s cell h e = e
last_none ts (suc n) s cell h e =
    after_none ts n s (cell_of (fields_of ts s.form) cell) (slot_of (fields_of ts s.form) cell) (λ f c g. last_none ts n f c h g) e (found_none (fields_of ts s.form) cell (type_none ts s.form h))

pub leaf_none : (ts : List Fields) (s : Slot) (cell : ℕ) → have_no_initials ts ≡ true → is_zero s.initial ≡ true → (leaf ts s cell).initial ≡ i.Zero
leaf_none ts s cell h e = last_none ts (length ts) s (cell % s.stride) h (zero_is s.initial e)

-- no cell of a variable begins with anything
pub nothing_begun : (ts : List Fields) (s : Slot) (v c n : ℕ) (b : State) → have_no_initials ts ≡ true → is_zero s.initial ≡ true → fields_begun ts s v c n b ≡ Ok b
nothing_begun ts s v c zero b h e = refl
nothing_begun ts s v c (suc n) b h e =
    let x : (leaf ts s c).initial ≡ i.Zero = leaf_none ts s c h e in
    rw x (nothing_begun ts s v (c + 1) n b h e)
