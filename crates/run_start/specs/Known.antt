-- What is known of a beginning.
use Rattle.std.specs.Prelude.{◌≡◌, ℕ, zero, suc, ◌++◌, Option, Some, None, Bool, true, false, ◌&&◌, nat_eq, List, [], ◌∷◌, length, take, map, ℤ, Result, Ok, Err}
use Rattle.pml_program.specs.declared.form.Form.{Form}
use Rattle.pml_program.specs.declared.form.Form.TheVariants.{Struct}
use Rattle.pml_program.specs.declared.program.Initial.{Initial}
use Rattle.pml_program.specs.declared.program.Initial.TheVariants as i
use Rattle.pml_program.specs.declared.program.Slot.{Slot}
use Rattle.pml_program.specs.declared.program.Fields.{Fields}
use Rattle.promela_process.specs.declared.place.Place.{Place}
use Rattle.pml_store.specs.Writing.{before}
use Rattle.diagnostics.specs.declared.fault.Fault.{Fault}
use Rattle.run_start.specs.declared.started.Started.{Started}
use Rattle.promela_run.specs.declared.beginning.Beginning.{Beginning}
use Rattle.promela_run.specs.declared.beginning.Beginning.TheVariants.{Nothing, Number, Fails, Channel}
use Rattle.promela_run.specs.State.{leaf, Stand, State, unread, initial_value, cell_begun, with_frame, youngest_joined, variables_begun}
use Rattle.promela_run.specs.Statements.{with_arguments}
use Rattle.run_start.specs.Shown.{shape}

-- no frame, no variable and no cell comes or goes; what older frames hold and the channels that are there stay as they are; and the
-- log leads back to the same numbers; there may be as many cells as before
pub record Keeps (old new : Started) : Type 0 where
  pub shape : shape new.store.frames ≡ shape old.store.frames
  pub sorts : new.sorts.items ≡ old.sorts.items
  pub older : take (length old.sorts.items) new.store.frames ≡ take (length old.sorts.items) old.store.frames
  pub channels : take (length old.channels.items) new.channels.items ≡ old.channels.items
  pub past : before new.store ≡ before old.store
  pub most : new.store.most ≡ old.store.most

-- a place in the youngest frame's variable with this number
abbrev pub is_of : State → ℕ → Place → Bool
is_of b variable q = nat_eq (length b.stands) q.frame && nat_eq variable q.variable

-- a type without fields
abbrev pub IsPlain : Form → Type 0
IsPlain (Struct o) = ⊥
IsPlain _ = Unit {0}

-- ---- what a cell begins with, as far as it is known before anything is there

abbrev pub value_known : Result ℤ Fault → Beginning
value_known (Ok n) = Number n
value_known (Err f) = Fails f

-- of a channel it is known that it is one
abbrev pub known_of : Initial → Form → Beginning
known_of i.Zero form = Nothing
known_of (i.Value v) form = value_known (initial_value v form unread)
known_of (i.Channel capacity types) form = Channel

abbrev pub known : Slot → Beginning
known s = known_of s.initial s.form

abbrev pub known_fields : Fields → List Beginning
known_fields t = map known t.fields

-- there is no initialiser
abbrev pub is_zero : Initial → Bool
is_zero i.Zero = true
is_zero _ = false

-- no field has an initialiser
abbrev pub are_zero : List Slot → Bool
are_zero [] = true
are_zero (f ∷ fs) = is_zero f.initial && are_zero fs

-- no field of a typedef has an initialiser
abbrev pub have_no_initials : List Fields → Bool
have_no_initials [] = true
have_no_initials (t ∷ ts) = are_zero t.fields && have_no_initials ts

-- of each field of each typedef what it begins with, and whether none has an initialiser
pub record AreBeginnings (ts : List Fields) (rows : List (List Beginning)) (zeroed : Bool) : Type 0 where
  pub rows_are : rows ≡ map known_fields ts
  pub zeroed_is : zeroed ≡ have_no_initials ts

abbrev pub known_in : Option Fields → List Beginning
known_in None = []
known_in (Some t) = known_fields t

-- what each cell of an element of a variable begins with
abbrev pub known_cells : List Fields → Slot → ℕ → List Beginning
known_cells ts s zero = []
known_cells ts s (suc n) = known_cells ts s n ++ known (leaf ts s n) ∷ []

-- ---- words of what begins

-- what a cell of a variable begins with, by the field that has it, or the variable itself where its type has no fields
abbrev pub leaf_begun : List Fields → Slot → ℕ → ℕ → State → Result State Fault
leaf_begun ts s variable cell = cell_begun (leaf ts s cell).initial (leaf ts s cell).form variable cell

-- a process more that stands so, with nothing in its variables
abbrev pub with_process : Stand → List Slot → State → State
with_process y ss b = with_frame ss (youngest_joined y b)

-- variables are begun: the first of them with arguments, the others as they are declared
abbrev pub begun_with : List Fields → List Slot → List ℤ → State → Result State Fault
begun_with ts slots xs b = variables_begun ts slots 0 (with_arguments 0 slots xs b)
