-- One field more on the way, or none.
use Rattle.std.proofs.Common.{◌≡◌, ℕ, zero, suc, ◌%◌, List, [], ◌++◌, Option, Some, None, refl, ◌∙◌, subst}
use Rattle.std.specs.Prelude.{codes}
use Rattle.pml_program.specs.declared.form.Form.{Form}
use Rattle.pml_program.specs.declared.program.Slot.{Slot}
use Rattle.pml_program.specs.declared.program.Fields.{Fields}
use Rattle.promela_run.specs.State.{slot_of, cell_of, fields_of}
use Rattle.promela_run.specs.Lines.{element, fields_path}

-- the path from what is found on
abbrev on : List Fields → ℕ → ℕ → Option Slot → List ℕ
on ts n cell o = elim o as (λ _. List ℕ) [ None ↦ [] | Some f ↦ codes "." ++ (element f cell ++ fields_path ts n f.form (cell % f.stride)) ]

pub path-none : (ts : List Fields) (n : ℕ) (form : Form) (cell : ℕ) (o : Option Slot) → None ≡ o → o ≡ slot_of (fields_of ts form) cell → fields_path ts n form cell ≡ []
path-none ts zero form cell o h e = refl
path-none ts (suc n) form cell o h e = subst (λ (x : Option Slot). on ts n (cell_of (fields_of ts form) cell) x ≡ []) (h ∙ e) refl

pub path-some : (ts : List Fields) (n m : ℕ) (form : Form) (cell w : ℕ) (f : Slot) (o : Option Slot) → n ≡ suc m → Some f ≡ o → o ≡ slot_of (fields_of ts form) cell → w ≡ cell_of (fields_of ts form) cell
    → fields_path ts n form cell ≡ codes "." ++ (element f w ++ fields_path ts m f.form (w % f.stride))
path-some ts n m form cell w f o z h e i =
    rw (z, i) (subst (λ (x : Option Slot). on ts m (cell_of (fields_of ts form) cell) x ≡ codes "." ++ (element f (cell_of (fields_of ts form) cell) ++ fields_path ts m f.form (cell_of (fields_of ts form) cell % f.stride))) (h ∙ e) refl)
