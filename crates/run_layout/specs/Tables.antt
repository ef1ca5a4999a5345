-- The tables by which a cell's variable is found.
use Rattle.std.specs.Prelude.{◌≡◌, ℕ, ◌+◌, ◌≤◌, ◌^◌, ◌⊎◌, List, [], ◌∷◌, slice_get, map, Option, Some, None}
use Rattle.std.specs.Option.{option_map_or}
use Rattle.std.specs.Ordering.{nat_cmp}
use Rattle.std.specs.BTreeMap.{BTreeMap, get}
use Rattle.pml_program.specs.declared.program.Slot.{Slot}
use Rattle.pml_program.specs.declared.program.Fields.{Fields}
use Rattle.pml_program.specs.declared.program.Proctype.{Proctype}
use Rattle.pml_program.specs.declared.program.Program.{Program}
use Rattle.promela_run.specs.State.{size, fields_at}

-- where variables begin, the first of them here, as far as a machine word counts
abbrev pub AreStarts : ℕ → List Slot → List ℕ → Type 0
AreStarts at ss [] = (ss ≡ []) ⊎ (2 ^ 64 ≤ at)
AreStarts at [] (x ∷ xs) = ⊥
AreStarts at (s ∷ ss) (x ∷ xs) = (x ≡ at) × AreStarts (at + size s) ss xs

abbrev pub fields : Fields → List Slot
fields t = t.fields

-- the fields of a typedef, where there is one
abbrev pub fields_in : Option Fields → List Slot
fields_in None = []
fields_in (Some t) = t.fields

-- the fields of the typedef with this number, if one is given
abbrev pub fields_by : List Fields → Option ℕ → List Slot
fields_by ts None = []
fields_by ts (Some k) = fields_in (slice_get ts k)

-- the number of an owner's typedef leads to the fields that the owner has among these
abbrev pub AreNumbers : List Fields → List Fields → BTreeMap ℕ ℕ → Type 0
AreNumbers ts us numbers = (o : ℕ) → fields_by ts (get nat_cmp numbers o) ≡ fields_at us o

-- the fields of each typedef, and the number of each owner's
pub record AreTables (ts : List Fields) (rs : List (List Slot)) (ns : BTreeMap ℕ ℕ) : Type 0 where
  pub layouts : rs ≡ map fields ts
  pub numbers : AreNumbers ts ts ns

abbrev pub slot_or : Slot → Option Slot → Slot
slot_or s None = s
slot_or s (Some f) = f

-- the field with this number of the typedef with this number, or the variable
abbrev pub field_by : List Fields → Slot → Option (ℕ × ℕ) → Slot
field_by ts s None = s
field_by ts s (Some p) = slot_or s (slice_get (fields_in (slice_get ts p.0)) p.1)

-- ---- of a model

-- the variables of a proctype, if it is there
abbrev pub slots_of : Option Proctype → List Slot
slots_of o = option_map_or (λ q. q.variables) o []

abbrev pub variables : Proctype → List Slot
variables q = q.variables

-- the layouts are those of a model's typedefs, globals and proctypes
pub record AreLayouts (p : Program) (ts : List Fields) (gs : List Slot) (ls : List (List Slot)) : Type 0 where
  pub typedefs_are : ts ≡ p.typedefs
  pub globals_are : gs ≡ p.globals
  pub locals_are : ls ≡ map variables p.proctypes
