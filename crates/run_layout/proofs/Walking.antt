-- One field more on the way to the cells from one on, or none.
use Rattle.std.proofs.Common.{◌≡◌, ℕ, suc, ◌+◌, ◌-◌, ◌%◌, ◌<◌, ◌≤◌, ◌^◌, List, [], ◌∷◌, Option, Some, None, slice_get, refl, sym, ap, ◌∙◌, arith}
use Rattle.std.proofs.Math.Nat.{mod-add-mod, mod-eq_of_lt}
use Rattle.std.proofs.Math.Logic.{⊎_elim}
use Rattle.std.proofs.lemmas.Bool.{cases_eq, cases_lt, lt-ltb, le-ltb}
use Rattle.pml_program.specs.declared.form.Form.{Form}
use Rattle.pml_program.specs.declared.program.Slot.{Slot}
use Rattle.pml_program.specs.declared.program.Fields.{Fields}
use Rattle.run_layout.specs.declared.cursor.Stage.{Stage}
use Rattle.promela_run.specs.State.{size, slot_of, cell_of, fields_of, last_field, leaf}
use Rattle.run_layout.specs.Tables.{fields_in, field_by, slot_or}
use Rattle.run_layout.specs.Cursor.{offset, IsOnWay}
use Rattle.run_layout.proofs.Leading.{stays, goes_on}

-- the cells behind one of the same element
same_element : (x k m : ℕ) → k ≤ m - x % m - 1 → (x + k) % m ≡ x % m + k
same_element x k m h =
    ⊎_elim (λ (e : k ≡ 0). let y : x + k ≡ x = omega (arith, e) in let z : x % m ≡ x % m + k = omega (arith, e) in ap (λ (n : ℕ). n % m) y ∙ z)
    (λ d. let l : x % m + k < m = omega (arith, h, d) in sym (mod-add-mod x m k) ∙ mod-eq_of_lt l)
    (cases_eq k 0)

-- the cells behind one of the same field
pub record Behind (fs : List Slot) (cell k : ℕ) (f : Slot) : Type 0 where
  pub inside : cell_of fs cell < size f
  pub same : cell_of fs cell + k < size f → slot_of fs (cell + k) ≡ Some f
  pub number : cell_of fs cell + k < size f → cell_of fs (cell + k) ≡ cell_of fs cell + k

some_is : (s f : Slot) → Some s ≡ Some f → s ≡ f
some_is s f h = cc

same_field : (fs : List Slot) (cell k : ℕ) (f : Slot) → slot_of fs cell ≡ Some f → Behind fs cell k f
same_field [] cell k f h = absurd cc
same_field (s ∷ ss) cell k f h = ⊎_elim here (λ l. there l (same_field ss (cell - size s) k f (rw (le-ltb cell (size s) l) at h))) (cases_lt cell (size s))
  where
    here : cell < size s → Behind (s ∷ ss) cell k f
    here l =
        let e : s ≡ f = some_is s f (rw (lt-ltb cell (size s) l) at h) in
        let z : size s ≡ size f = ap size e in
        record {
          inside = rw (lt-ltb cell (size s) l) (omega (arith, l, z));
          same = rw (lt-ltb cell (size s) l) (λ m. let i : cell + k < size s = omega (arith, m, z) in rw (lt-ltb (cell + k) (size s) i) (ap Some e));
          number = rw (lt-ltb cell (size s) l) (λ m. let i : cell + k < size s = omega (arith, m, z) in rw (lt-ltb (cell + k) (size s) i) refl);
        }

    there : size s ≤ cell → Behind ss (cell - size s) k f → Behind (s ∷ ss) cell k f
    there l r =
        let i : size s ≤ cell + k = omega (arith, l) in
        let y : cell + k - size s ≡ cell - size s + k = omega (arith, l) in
        record {
          inside = rw (le-ltb cell (size s) l) r.inside;
          same = rw (le-ltb cell (size s) l) (λ m. rw (le-ltb (cell + k) (size s) i, y) (r.same m));
          number = rw (le-ltb cell (size s) l) (λ m. rw (le-ltb (cell + k) (size s) i, y) (r.number m));
        }

-- no field more
pub ends : (ts : List Fields) (s : Slot) (g : Stage) (cell at : ℕ) (o : Option Slot) → IsOnWay ts s g → g.first ≤ cell → cell ≤ g.last → at ≡ offset g cell → o ≡ slot_of (fields_of ts g.form) at → None ≡ o
    → field_by ts s g.place ≡ leaf ts s cell
ends ts s g cell at o w h k e i n =
    let none : slot_of (fields_of ts (field_by ts s g.place).form) (offset g cell) ≡ None
    = ap (λ (x : Form). slot_of (fields_of ts x) (offset g cell)) (sym w.form) ∙ ap (slot_of (fields_of ts g.form)) (sym e) ∙ sym i ∙ sym n in
    sym (w.leads cell h k ∙ stays ts g.following (field_by ts s g.place) (offset g cell) none)

-- one field more
pub goes : (ts : List Fields) (s f : Slot) (g : Stage) (a b cell at within more last : ℕ) → IsOnWay ts s g → g.first ≤ cell → at ≡ offset g cell
    → slice_get (fields_in (slice_get ts a)) b ≡ slot_of (fields_of ts g.form) at → Some f ≡ slice_get (fields_in (slice_get ts a)) b → within ≡ cell_of (fields_of ts g.form) at
    → more ≤ size f - within - 1 → more ≤ g.stride - at - 1 → last ≤ g.last → last ≤ cell + more → size f < 2 ^ 64 → 0 < g.following
    → IsOnWay ts s (record { place = Some (a, b); form = f.form; stride = f.stride; within = within; first = cell; last = last; following = g.following - 1 })
goes ts s f g a b cell at within more last w h e i j v m n p q z y =
    let field : field_by ts s (Some (a, b)) ≡ f = ap (slot_or s) (sym j) in
    let found : slot_of (fields_of ts g.form) at ≡ Some f = sym i ∙ sym j in
    let inside : within < size f = let r = (same_field (fields_of ts g.form) at 0 f found).inside in omega (arith, r, v) in
    record {
      form = ap (λ (x : Slot). x.form) (sym field);
      stride = ap (λ (x : Slot). x.stride) (sym field);
      fits = omega (arith, m, q, z, inside);
      leads = λ c k l.
          let u = c - cell in
          let r = same_field (fields_of ts g.form) at u f found in
          let t : cell_of (fields_of ts g.form) at + u < size f = omega (arith, m, q, v, k, l, inside) in
          let x : g.within + (c - g.first) ≡ g.within + (cell - g.first) + u = omega (arith, h, k) in
          let d : u ≤ g.stride - at - 1 = omega (arith, n, q, l) in
          let o : offset g c ≡ at + u = ap (λ (n : ℕ). n % g.stride) x ∙ same_element (g.within + (cell - g.first)) u g.stride (rw e at d) ∙ ap (λ (n : ℕ). n + u) (sym e) in
          let before = field_by ts s g.place in
          let there : slot_of (fields_of ts before.form) (offset g c) ≡ Some f
          = ap (λ (x : Form). slot_of (fields_of ts x) (offset g c)) (sym w.form) ∙ ap (slot_of (fields_of ts g.form)) o ∙ r.same t in
          let number : cell_of (fields_of ts before.form) (offset g c) ≡ within + u
          = ap (λ (x : Form). cell_of (fields_of ts x) (offset g c)) (sym w.form) ∙ ap (cell_of (fields_of ts g.form)) o ∙ r.number t ∙ ap (λ (n : ℕ). n + u) (sym v) in
          let one : g.following ≡ suc (g.following - 1) = omega (arith, y) in
          w.leads c (omega (arith, h, k)) (omega (arith, l, p)) ∙ goes_on ts g.following (g.following - 1) before f (offset g c) one there
          ∙ ap (λ (n : ℕ). last_field ts (g.following - 1) f (n % f.stride)) number ∙ ap (λ (x : Slot). last_field ts (g.following - 1) x ((within + u) % f.stride)) (sym field);
    }
