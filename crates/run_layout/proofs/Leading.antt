-- One field more on the way to a cell, or none.
use Rattle.std.proofs.Common.{◌≡◌, ℕ, zero, suc, ◌%◌, List, Option, Some, None, refl, sym, ap, ◌∙◌, subst}
use Rattle.pml_program.specs.declared.form.Form.{Form}
use Rattle.pml_program.specs.declared.program.Slot.{Slot}
use Rattle.pml_program.specs.declared.program.Fields.{Fields}
use Rattle.promela_run.specs.State.{slot_of, cell_of, fields_of, last_field}

-- the way from what is found on
abbrev on : List Fields → ℕ → Slot → ℕ → Option Slot → Slot
on ts n s cell o = elim o as (λ _. Slot) [ None ↦ s | Some f ↦ last_field ts n f (cell % f.stride) ]

pub stays : (ts : List Fields) (n : ℕ) (s : Slot) (cell : ℕ) → slot_of (fields_of ts s.form) cell ≡ None → last_field ts n s cell ≡ s
stays ts zero s cell h = refl
stays ts (suc n) s cell h = subst (λ (o : Option Slot). on ts n s (cell_of (fields_of ts s.form) cell) o ≡ s) (sym h) refl

pub goes_on : (ts : List Fields) (n m : ℕ) (s f : Slot) (cell : ℕ) → n ≡ suc m → slot_of (fields_of ts s.form) cell ≡ Some f → last_field ts n s cell ≡ last_field ts m f (cell_of (fields_of ts s.form) cell % f.stride)
goes_on ts n m s f cell e h =
    rw e (subst (λ (o : Option Slot). on ts m s (cell_of (fields_of ts s.form) cell) o ≡ last_field ts m f (cell_of (fields_of ts s.form) cell % f.stride)) (sym h) refl)

-- no field more
pub ended : (ts : List Fields) (n : ℕ) (s x : Slot) (form : Form) (cell : ℕ) (o : Option Slot) → form ≡ s.form → o ≡ slot_of (fields_of ts form) cell → None ≡ o → last_field ts n s cell ≡ x → form ≡ x.form
ended ts n s x form cell o e h k l =
    let none : slot_of (fields_of ts s.form) cell ≡ None = ap (λ (f : Form). slot_of (fields_of ts f) cell) (sym e) ∙ sym h ∙ sym k in
    e ∙ ap (λ (y : Slot). y.form) (sym (stays ts n s cell none) ∙ l)

-- one field more
pub led : (ts : List Fields) (n m : ℕ) (s f x : Slot) (form : Form) (cell v w : ℕ) (o : Option Slot) → n ≡ suc m → form ≡ s.form → o ≡ slot_of (fields_of ts form) cell → Some f ≡ o
    → v ≡ cell_of (fields_of ts form) cell → w ≡ v % f.stride → last_field ts n s cell ≡ x → last_field ts m f w ≡ x
led ts n m s f x form cell v w o z e h k i j l =
    let some : slot_of (fields_of ts s.form) cell ≡ Some f = ap (λ (g : Form). slot_of (fields_of ts g) cell) (sym e) ∙ sym h ∙ sym k in
    ap (last_field ts m f) (j ∙ ap (λ (n : ℕ). n % f.stride) (i ∙ ap (λ (g : Form). cell_of (fields_of ts g) cell) e)) ∙ sym (goes_on ts n m s f cell z some) ∙ l
