-- The path of a cell in words, and what a reference that evaluates to the cell has to do with it.
use Rattle.std.specs.Prelude.{◌≡◌, ◌<◌, ℕ, ◌+◌, ◌*◌, false, List, [], ◌∷◌, ◌++◌, length, slice_get, Option, Some, None, pos, Ok, codes}
use Rattle.pml_tree.specs.declared.tree.Reference.{Reference}
use Rattle.pml_program.specs.declared.expr.Expr.{Expr}
use Rattle.pml_program.specs.declared.expr.Turn.{Turn, out-Turn}
use Rattle.pml_program.specs.declared.expr.Target.{Target, out-Target}
use Rattle.pml_program.specs.declared.program.Slot.{Slot}
use Rattle.pml_program.specs.declared.program.Fields.{Fields}
use Rattle.pml_program.specs.declared.program.Program.{Program}
use Rattle.promela_process.specs.declared.place.Place.{Place}
use Rattle.promela_process.specs.Expressions.{Reading, val, place}
use Rattle.promela_run.specs.Lines.{index_text, path}
use Rattle.promela_model.specs.Stands.{Place as Meant, StandsReference, Globals}
use Rattle.meaning_laws.specs.Tiled.{is_struct, Leads, AreWithin, AreAmong, variables_of, fields_under, names_along, indices_along, names_of}

-- what is behind a step of a path: nothing more, or a dot and the next
abbrev pub further : List (ℕ × ℕ) → List ℕ → List ℕ
further [] words = []
further (x ∷ p) words = codes "." ++ words

-- A path in words, as `a[2]` or `r.f[1].g`: each variable or field by its name, and by its index where it is an array.
abbrev pub spelled : List Fields → List Slot → List (ℕ × ℕ) → List ℕ
spelled ts ss [] = []
spelled ts ss (x ∷ p) = elim (slice_get ss x.0) as (λ _. List ℕ) [
  | None ↦ []
  | Some s ↦ (s.name.text ++ index_text s.array x.1) ++ further p (spelled ts (fields_under ts s.form) p)
]

-- a value line names a cell of this variable by a path that leads there, in words
pub record Printed (p : Program) (ss : List Slot) (s : Slot) (cell : ℕ) : Type 0 where
  pub way : List (ℕ × ℕ)
  pub leads : Leads p.typedefs ss (s.offset + cell) way
  pub words : path p s cell ≡ spelled p.typedefs ss way

-- what is worth this number, as an index that may be left out: then it is 0
abbrev pub IsWorth : Reading → Option Expr → ℕ → Type 0
IsWorth now None i = i ≡ 0
IsWorth now (Some e) i = val e now ≡ Ok (pos i)

abbrev pub AreWorth : Reading → List Turn → List ℕ → Type 0
AreWorth now [] [] = Unit {0}
AreWorth now (t ∷ ts) (i ∷ is) = IsWorth now (out-Turn t).index i × AreWorth now ts is
AreWorth now _ _ = ⊥

-- the state has all cells of a variable
abbrev pub HasCells : Reading → List Slot → Target → Type 0
HasCells now ss x = (s : Slot) → slice_get ss (out-Target x).variable ≡ Some s
    → now.cells (now.frame (out-Target x).local) (out-Target x).variable ≡ s.length * s.stride

-- A reference that means the place x is asked of a state: what is declared before it is a beginning of its owner's variables, each of
-- its names is found, what it reaches is of no typedef's type, and its indices are worth these numbers, each within its array.
pub record IsAsked (p : Program) (ss : List Slot) (gs : Globals) (ls : List Slot) (r : Reference) (x : Target) (is : List ℕ) (now : Reading) : Type 0 where
  pub among : AreAmong gs.typedefs p.typedefs
  pub later : List Slot
  pub begins : ss ≡ variables_of gs ls (out-Target x).local ++ later
  pub found : length (out-Target x).turns ≡ length (names_of r)
  pub plain : is_struct (out-Target x).form ≡ false
  pub within : AreWithin (out-Target x).turns is
  pub worth : AreWorth now (out-Target x).turns is
  pub cells : HasCells now ss x

-- the cell of the variable that a target is of
abbrev pub cell_at : Reading → Target → ℕ → Place
cell_at now x cell = record { frame = now.frame (out-Target x).local; variable = (out-Target x).variable; cell = cell }

-- the reference evaluates to a cell, and a value line names that by the reference's names and the numbers that its indices are worth
pub record ReadsBack (p : Program) (ss : List Slot) (r : Reference) (x : Target) (is : List ℕ) (now : Reading) : Type 0 where
  pub slot : Slot
  pub variable : slice_get ss (out-Target x).variable ≡ Some slot
  pub cell : ℕ
  pub evaluates : place x now ≡ Ok (cell_at now x cell)
  pub way : List (ℕ × ℕ)
  pub names : names_along p.typedefs ss way ≡ names_of r
  pub indices : indices_along way ≡ is
  pub words : path p slot cell ≡ spelled p.typedefs ss way

-- each cell of these variables is printed so
abbrev pub ArePrinted : Program → List Slot → Type 0
ArePrinted p ss = (k cell : ℕ) (s : Slot) → slice_get ss k ≡ Some s → cell < s.length * s.stride → Printed p ss s cell

-- each reference to them that is asked of a state reads back
abbrev pub AreReadBack : Program → List Slot → Type 0
AreReadBack p ss = (gs : Globals) (ls : List Slot) (r : Reference) (x : Target) (is : List ℕ) (now : Reading)
    → StandsReference gs ls r (Meant x) → IsAsked p ss gs ls r x is now → ReadsBack p ss r x is now
