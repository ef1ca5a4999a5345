-- Each cell's path, and a reference that evaluates to the cell.
use Rattle.std.proofs.Common.{◌≡◌, ℕ, zero, suc, ◌+◌, ◌-◌, ◌*◌, ◌%◌, ◌<◌, List, [], ◌∷◌, ◌++◌, length, Option, Some, None, ap, sym, subst, ◌∙◌, arith}
use Rattle.std.specs.Prelude.{slice_get}
use Rattle.pml_tree.specs.declared.tree.Tree.{Tree}
use Rattle.pml_tree.specs.declared.tree.Reference.{Reference}
use Rattle.pml_program.specs.declared.expr.Target.{Target, out-Target}
use Rattle.pml_program.specs.declared.program.Slot.{Slot}
use Rattle.pml_program.specs.declared.program.Program.{Program}
use Rattle.promela_process.specs.Expressions.{Reading}
use Rattle.promela_run.specs.Lines.{element, fields_path, path}
use Rattle.promela_model.specs.Stands.{Place, StandsReference, Globals}
use Rattle.promela_model.specs.StandsModel.{StandsModel}
use Rattle.meaning_laws.specs.Tiled as tiled
use Rattle.meaning_laws.specs.Tiled.{fields_at, Tile, IsTiled, Leads, IsOwner, reached, variables_of, fields_under, names_along, first_of}
use Rattle.meaning_laws.proofs.Tiling.{model-tiled}
use Rattle.meaning_laws.proofs.Leading.{Good, apart, lies-in, all-tile, tile-at, model-paths}
use Rattle.meaning_laws.proofs.Going.{reference-leads}
use Rattle.cell_laws.specs.Paths.{spelled, Printed, IsAsked, ReadsBack}
use Rattle.cell_laws.proofs.Printing.{Words, all-before, printed}
use Rattle.cell_laws.proofs.Evaluating.{target-reaches}

same-slot : (ss : List Slot) (k m : ℕ) (s t : Slot) → slice_get ss k ≡ Some s → slice_get ss m ≡ Some t → Some k ≡ Some m → s ≡ t
same-slot ss k m s t e f h = let same : k ≡ m = cc in let one : Some s ≡ Some t = sym e ∙ ap (slice_get ss) same ∙ f in cc

module _ (p : Program) (is_tiled : IsTiled p) where
  all : (t : ℕ) (fs : List Slot) → fields_at p.typedefs t ≡ Some fs → Tile p.typedefs 0 fs
  all = all-tile p.typedefs is_tiled.typedefs

  good : (ss : List Slot) → IsOwner p ss → Good p.typedefs all ss
  good ss (tiled.globally few) = record { tile = is_tiled.globals; few = few }
  good ss (tiled.locally k {q} e few) = record { tile = tile-at p.typedefs p.proctypes k q is_tiled.proctypes e; few = few }

  words-of : {ss : List Slot} {cell : ℕ} {q : List (ℕ × ℕ)} → Leads p.typedefs ss cell q → IsOwner p ss → Words p.typedefs is_tiled.typedefs is_tiled.owners all (length p.typedefs) ss cell q
  words-of {ss} l owner = printed p.typedefs is_tiled.typedefs is_tiled.owners all l (good ss owner) (length p.typedefs) (all-before p.typedefs is_tiled.typedefs is_tiled.owners all ss)

  -- by the variable in which the path begins
  from-variable : {ss : List Slot} {q : List (ℕ × ℕ)} (k cell : ℕ) (s : Slot) → Leads p.typedefs ss (s.offset + cell) q → IsOwner p ss → slice_get ss k ≡ Some s → first_of q ≡ Some k
      → (path p s cell ≡ spelled p.typedefs ss q) × (cell < s.length * s.stride)
  from-variable {ss} {q} k cell s l owner there first =
      let w = words-of l owner in
      let same : w.s ≡ s = same-slot ss w.k k w.s s w.there there (sym w.first ∙ first) in
      let at : (s.offset + cell) - s.offset ≡ cell = omega arith in
      let to : s.offset + cell < s.offset + s.length * s.stride = subst (λ (x : Slot). s.offset + cell < x.offset + x.length * x.stride) same w.to in (
        ap (λ (c : ℕ). element s c ++ fields_path p.typedefs (length p.typedefs) s.form (c % s.stride)) (sym at)
            ∙ subst (λ (x : Slot). element x ((s.offset + cell) - x.offset) ++ fields_path p.typedefs (length p.typedefs) x.form (((s.offset + cell) - x.offset) % x.stride) ≡ spelled p.typedefs ss q) same w.words,
        omega (arith, to),
      )

  cell-printed : (t : Tree) (ss : List Slot) (k cell : ℕ) (s : Slot) → StandsModel t p → IsOwner p ss → slice_get ss k ≡ Some s → cell < s.length * s.stride → Printed p ss s cell
  cell-printed t ss k cell s stands owner there below =
      let g = good ss owner in
      let l = lies-in p.typedefs all ss g k s there in
      let q = (model-paths t p ss stands owner).some (s.offset + cell) (omega (arith, l.to, below)) in
      let w = words-of q.1 owner in
      let same : w.k ≡ k = apart p.typedefs 0 ss g.tile (omega (arith, g.few)) w.k k w.s s w.there there (s.offset + cell) w.from w.to (omega arith) (omega (arith, below)) in
      record { way = q.0; leads = q.1; words = (from-variable k cell s q.1 owner there (w.first ∙ ap Some same)).0 }

  -- ---- what is declared before a place, and all of its owner

  get-before : (xs ys : List Slot) (k : ℕ) (s : Slot) → slice_get xs k ≡ Some s → slice_get (xs ++ ys) k ≡ Some s
  get-before [] ys k s e = cc
  get-before (x ∷ xs) ys zero s e = e
  get-before (x ∷ xs) ys (suc k) s e = get-before xs ys k s e

  leads-before : (ys : List Slot) {xs : List Slot} {c : ℕ} {q : List (ℕ × ℕ)} → Leads p.typedefs xs c q → Leads p.typedefs (xs ++ ys) c q
  leads-before ys (tiled.ends {ss = xs} {k} {s} e h f) = tiled.ends (get-before xs ys k s e) h f
  leads-before ys (tiled.goes_on {ss = xs} {k} {s} e h f found rest) = tiled.goes_on (get-before xs ys k s e) h f found rest

  abbrev names_by : List (ℕ × ℕ) → Option Slot → List (List ℕ)
  names_by q x = elim x as (λ _. List (List ℕ)) [
    | None ↦ []
    | Some s ↦ s.name.text ∷ names_along p.typedefs (fields_under p.typedefs s.form) q
  ]

  names-before : (ys : List Slot) {xs : List Slot} {c : ℕ} {q : List (ℕ × ℕ)} → Leads p.typedefs xs c q → names_along p.typedefs (xs ++ ys) q ≡ names_along p.typedefs xs q
  names-before ys (tiled.ends {ss = xs} {k} {i} {s} e h f) = ap (names_by []) (get-before xs ys k s e) ∙ sym (ap (names_by []) e)
  names-before ys (tiled.goes_on {ss = xs} {k} {i} {s} {p = q} e h f found rest) = ap (names_by q) (get-before xs ys k s e) ∙ sym (ap (names_by q) e)

  -- ---- the round trip

  reference-reads : (ss : List Slot) (gs : Globals) (ls : List Slot) (r : Reference) (x : Target) (is : List ℕ) (now : Reading) → IsOwner p ss → StandsReference gs ls r (Place x) → IsAsked p ss gs ls r x is now → ReadsBack p ss r x is now
  reference-reads ss gs ls r x is now owner stands asked =
      let xs : List Slot = variables_of gs ls (out-Target x).local in
      let l = reference-leads gs p.typedefs asked.among stands is asked.plain asked.within in
      let whole : xs ++ asked.later ≡ ss = sym asked.begins in
      let there : slice_get ss (out-Target x).variable ≡ Some l.slot = subst (λ (vs : List Slot). slice_get vs (out-Target x).variable ≡ Some l.slot) whole (get-before xs asked.later (out-Target x).variable l.slot l.there) in
      let cell : ℕ = reached (out-Target x).turns is in
      let leads : Leads p.typedefs ss (l.slot.offset + cell) l.path = subst (λ (vs : List Slot). Leads p.typedefs vs (l.slot.offset + cell) l.path) whole (leads-before asked.later l.leads) in
      let v = from-variable (out-Target x).variable cell l.slot leads owner there l.first in
      let names : names_along p.typedefs ss l.path ≡ names_along p.typedefs xs l.path = subst (λ (vs : List Slot). names_along p.typedefs vs l.path ≡ names_along p.typedefs xs l.path) whole (names-before asked.later l.leads) in
      record {
        slot = l.slot;
        variable = there;
        cell = cell;
        evaluates = target-reaches x is now asked.within asked.worth (omega (arith, v.1, asked.cells l.slot there));
        way = l.path;
        names = names ∙ l.named asked.found;
        indices = l.indexed;
        words = v.0;
      }

pub printed-cells : (t : Tree) (p : Program) (ss : List Slot) (k cell : ℕ) (s : Slot) → StandsModel t p → IsOwner p ss → slice_get ss k ≡ Some s → cell < s.length * s.stride → Printed p ss s cell
printed-cells t p ss k cell s stands = cell-printed p (model-tiled t p stands) t ss k cell s stands

pub read-back : (t : Tree) (p : Program) (ss : List Slot) (gs : Globals) (ls : List Slot) (r : Reference) (x : Target) (is : List ℕ) (now : Reading) → StandsModel t p → IsOwner p ss → StandsReference gs ls r (Place x)
    → IsAsked p ss gs ls r x is now → ReadsBack p ss r x is now
read-back t p ss gs ls r x is now stands = reference-reads p (model-tiled t p stands) ss gs ls r x is now
