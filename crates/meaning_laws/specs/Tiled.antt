-- How the cells of an owner are shared out among its variables, and which path leads to a cell.
use Rattle.std.specs.Prelude.{◌≡◌, ℕ, ◌+◌, ◌*◌, ◌<◌, ◌≤◌, nat_eq, Bool, true, false, if◌then◌else◌, List, [], ◌∷◌, ◌++◌, length, map, slice_get, Option, Some, None}
use Rattle.std.specs.List.{AllByRecursion}
use Rattle.profile.specs.declared.TheConstants.{MOST_CELLS}
use Rattle.pml_tree.specs.declared.tree.Reference.{Reference, out-Reference}
use Rattle.pml_tree.specs.declared.tree.Step.{Step, out-Step}
use Rattle.pml_program.specs.declared.form.Form.{Form}
use Rattle.pml_program.specs.declared.form.Form.TheVariants as kind
use Rattle.pml_program.specs.declared.program.Slot.{Slot}
use Rattle.pml_program.specs.declared.program.Fields.{Fields}
use Rattle.pml_program.specs.declared.program.Proctype.{Proctype}
use Rattle.pml_program.specs.declared.program.Program.{Program}
use Rattle.pml_program.specs.declared.expr.Turn.{Turn, out-Turn}
use Rattle.pml_program.specs.declared.expr.Target.{Target, Target-F, out-Target}
use Rattle.pml_program.specs.declared.expr.Expr.{Expr}
use Rattle.pml_program.specs.declared.expr.Want.{Want}
use Rattle.promela_model.specs.Names.{cells_counted}
use Rattle.promela_model.specs.Stands.{Meaning, Place, StandsReference, Structure, Globals, cells_in_all}

-- the fields of the typedef whose owner this is
abbrev pub fields_at : List Fields → ℕ → Option (List Slot)
fields_at [] t = None
fields_at (f ∷ fs) t = if nat_eq t f.owner then Some f.fields else fields_at fs t

-- an element of a typedef's type has the cells of its fields, and each other one cell
abbrev pub HasWidth : List Fields → Form → ℕ → Type 0
HasWidth ts (kind.Struct t) w = (fs : List Slot) × (fields_at ts t ≡ Some fs) × (w ≡ cells_counted (cells_in_all fs))
HasWidth ts _ w = w ≡ 1

-- A variable that begins at this cell, one element at least behind another. Cells are counted up to one more than there may be.
pub record Begins (ts : List Fields) (at : ℕ) (s : Slot) : Type 0 where
  pub offset : s.offset ≡ cells_counted at
  pub some : 0 < s.length
  pub width : HasWidth ts s.form s.stride

-- The first begins at this cell, and each other one where the one before it ends: there is no gap, and no cell of two.
abbrev pub Tile : List Fields → ℕ → List Slot → Type 0
Tile ts at [] = Unit {0}
Tile ts at (s ∷ ss) = Begins ts at s × Tile ts (at + s.length * s.stride) ss

-- the fields of each typedef are of types before it
abbrev pub TypedefsTile : List Fields → List Fields → Type 0
TypedefsTile before [] = Unit {0}
TypedefsTile before (f ∷ fs) = Tile before 0 f.fields × TypedefsTile (before ++ f ∷ []) fs

-- the typedefs are known by numbers that increase, from this one on
abbrev pub OwnersFrom : ℕ → List Fields → Type 0
OwnersFrom o [] = Unit {0}
OwnersFrom o (f ∷ fs) = (o ≤ f.owner) × OwnersFrom (f.owner + 1) fs

-- in a model, the variables of each owner begin at cell 0
pub record IsTiled (p : Program) : Type 0 where
  pub owners : OwnersFrom 1 p.typedefs
  pub globals : Tile p.typedefs 0 p.globals
  pub typedefs : TypedefsTile [] p.typedefs
  pub proctypes : AllByRecursion (λ (q : Proctype). Tile p.typedefs 0 q.variables) p.proctypes

abbrev pub listed : Option (List Slot) → List Slot
listed None = []
listed (Some ss) = ss

-- ---- paths

abbrev pub is_struct : Form → Bool
is_struct (kind.Struct t) = true
is_struct _ = false

-- A path leads to a cell among these variables: a variable by its number and an index, and from there on through the fields of its type.
pub data Leads (ts : List Fields) : List Slot → ℕ → List (ℕ × ℕ) → Type 0 where
  ends : {ss : List Slot} {k i : ℕ} {s : Slot} → slice_get ss k ≡ Some s → i < s.length → is_struct s.form ≡ false
      → Leads ts ss (s.offset + i * s.stride) ((k, i) ∷ [])
  goes_on : {ss fs : List Slot} {k i t cell : ℕ} {s : Slot} {p : List (ℕ × ℕ)} → slice_get ss k ≡ Some s → i < s.length
      → s.form ≡ kind.Struct t → fields_at ts t ≡ Some fs → Leads ts fs cell p → Leads ts ss (s.offset + (i * s.stride + cell)) ((k, i) ∷ p)

-- each cell of these variables has exactly one path, and no path leads out of them
pub record HasPaths (ts : List Fields) (ss : List Slot) : Type 0 where
  pub some : (cell : ℕ) → cell < cells_in_all ss → (p : List (ℕ × ℕ)) × Leads ts ss cell p
  pub one : (cell : ℕ) (p q : List (ℕ × ℕ)) → Leads ts ss cell p → Leads ts ss cell q → p ≡ q
  pub within : (cell : ℕ) (p : List (ℕ × ℕ)) → Leads ts ss cell p → cell < cells_in_all ss

-- the variables of an owner of a model, with no more cells than there may be
pub data IsOwner (p : Program) : List Slot → Type 0 where
  globally : cells_in_all p.globals ≤ MOST_CELLS → IsOwner p p.globals
  locally : (k : ℕ) {q : Proctype} → slice_get p.proctypes k ≡ Some q → cells_in_all q.variables ≤ MOST_CELLS → IsOwner p q.variables

-- ---- references

-- the cell that turns lead to, by these indices
abbrev pub reached : List Turn → List ℕ → ℕ
reached [] is = 0
reached (t ∷ ts) [] = 0
reached (t ∷ ts) (i ∷ is) = (out-Turn t).offset + (i * (out-Turn t).stride + reached ts is)

-- an index for each turn, within its elements
abbrev pub AreWithin : List Turn → List ℕ → Type 0
AreWithin [] [] = Unit {0}
AreWithin (t ∷ ts) (i ∷ is) = (i < (out-Turn t).length) × AreWithin ts is
AreWithin _ _ = ⊥

-- the typedefs that are declared before a place are those of the model
abbrev pub AreAmong : List Structure → List Fields → Type 0
AreAmong xs ts = AllByRecursion (λ (x : Structure). fields_at ts x.number ≡ Some x.fields) xs

-- the variables that a target's is one of
abbrev pub variables_of : Globals → List Slot → Bool → List Slot
variables_of gs ls true = ls
variables_of gs ls false = gs.variables

-- the fields of a place of this type: none where it is no typedef's
abbrev pub fields_under : List Fields → Form → List Slot
fields_under ts (kind.Struct t) = listed (fields_at ts t)
fields_under ts _ = []

-- the names of the variable and of the fields that a path goes through
abbrev pub names_along : List Fields → List Slot → List (ℕ × ℕ) → List (List ℕ)
names_along ts ss [] = []
names_along ts ss (x ∷ p) = elim (slice_get ss x.0) as (λ _. List (List ℕ)) [
  | None ↦ []
  | Some s ↦ s.name.text ∷ names_along ts (fields_under ts s.form) p
]

-- the number of the variable that it begins with
abbrev pub first_of : List (ℕ × ℕ) → Option ℕ
first_of [] = None
first_of (x ∷ p) = Some x.0

-- its indices
abbrev pub indices_along : List (ℕ × ℕ) → List ℕ
indices_along = map (λ x. x.1)

abbrev pub name_of : Step → List ℕ
name_of s = (out-Step s).name.text

-- the names of a reference
abbrev pub names_of : Reference → List (List ℕ)
names_of r = name_of (out-Reference r).first ∷ map name_of (out-Reference r).fields

-- What a variable's own turns lead to, from the variable's first cell on, is a cell that one of its paths leads to: the one with
-- the reference's names, where each of them is found, and its indices.
pub record LeadsOn (ts : List Fields) (ss : List Slot) (names : List (List ℕ)) (n : ℕ) (turns : List Turn) (is : List ℕ) : Type 0 where
  pub slot : Slot
  pub there : slice_get ss n ≡ Some slot
  pub path : List (ℕ × ℕ)
  pub first : first_of path ≡ Some n
  pub leads : Leads ts ss (slot.offset + reached turns is) path
  pub named : length turns ≡ length names → names_along ts ss path ≡ names
  pub indexed : indices_along path ≡ is

-- where a target is of no typedef's type, its turns lead from its variable's first cell to a cell with a path
abbrev pub TargetLeads : Globals → List Slot → List Fields → List (List ℕ) → Target-F Expr Want Target Turn → Type 0
TargetLeads gs ls ts names x =
    (is : List ℕ) → is_struct x.form ≡ false → AreWithin x.turns is → LeadsOn ts (variables_of gs ls x.local) names x.variable x.turns is

-- where a reference means a place
abbrev pub LeadsAs : Globals → List Slot → List Fields → List (List ℕ) → Meaning → Type 0
LeadsAs gs ls ts names (Place t) = TargetLeads gs ls ts names (out-Target t)
LeadsAs gs ls ts names _ = Unit {0}

-- each reference that means a place leads there
abbrev pub ReferencesLead : Globals → List Slot → List Fields → Type 0
ReferencesLead gs ls ts = (r : Reference) (m : Meaning) → StandsReference gs ls r m → LeadsAs gs ls ts (names_of r) m
