-- The numbers of typedefs by their owners.
use Rattle.std.proofs.Common.{◌≡◌, ℕ, ◌<◌, ◌∷◌, List, Some, Bool, false, get_or, length, refl, sym, ap, ◌∙◌, cond, arith, Less, Greater}
use Rattle.std.proofs.lemmas.Bool.{cases_eq, cases_lt, eq-eqb, ne_eqb}
use Rattle.std.proofs.Math.Logic.{⊎_elim}
use Rattle.std.proofs.lemmas.Option.{slice_get_read}
use Rattle.std.specs.Ordering.{nat_cmp, is_eq}
use Rattle.std.specs.Cmp.{nat_cmp_is}
use Rattle.std.specs.BTreeMap.{BTreeMap, get, Updates}
use Rattle.pml_program.specs.declared.program.Fields.{Fields}
use Rattle.promela_run.specs.State.{fields_at}
use Rattle.run_layout.specs.Tables.{fields_in, fields_by, AreNumbers}

apart : (k o : ℕ) → (k ≡ o → ⊥) → is_eq (nat_cmp k o) ≡ false
apart k o h =
    ⊎_elim (λ (l : k < o). ap is_eq (sym (nat_cmp_is k o Less l)))
    (λ g. ap is_eq (sym (nat_cmp_is k o Greater (omega (arith, g, h)))))
    (cases_lt k o)

-- one typedef more, before those that have their numbers
pub numbered : (ts us : List Fields) (i : ℕ) (t : Fields) (m n : BTreeMap ℕ ℕ) → AreNumbers ts us m → i < length ts → t ≡ get_or ts i t
    → Updates nat_cmp m n t.owner (Some i) → AreNumbers ts (t ∷ us) n
numbered ts us i t m n h l e w o =
    ⊎_elim (λ (s : t.owner ≡ o).
    ap (λ (q : ℕ). fields_by ts (get nat_cmp n q)) (sym s) ∙ ap (fields_by ts) w.1 ∙ ap fields_in (slice_get_read ts (length ts) i t refl l e)
    ∙ ap (λ (b : Bool). cond b t.fields (fields_at us o)) (sym (eq-eqb o t.owner (sym s))))
    (λ d. ap (fields_by ts) (w.2 o (apart t.owner o d)) ∙ h o ∙ ap (λ (b : Bool). cond b t.fields (fields_at us o)) (sym (ne_eqb o t.owner (λ s. d (sym s)))))
    (cases_eq t.owner o)
