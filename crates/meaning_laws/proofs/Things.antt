-- Slots as what names stand for.
use Rattle.std.proofs.Common.{◌≡◌, ℕ, Bool, true, false, ◌||◌, nat_eq, List, [], ◌∷◌, Option, Some, None}
use Rattle.std.specs.List.{AllByRecursion}
use Rattle.promela_model.specs.declared.thing.Thing.{Thing}
use Rattle.promela_model.specs.declared.thing.Thing.TheVariants as thing
use Rattle.promela_model.specs.declared.thing.Variable.{Variable}
use Rattle.pml_program.specs.declared.form.Form.{Form}
use Rattle.pml_program.specs.declared.form.Form.TheVariants as kind
use Rattle.pml_program.specs.declared.program.Slot.{Slot}
use Rattle.promela_model.specs.Stands.{Structure, cells_in_all}
use Rattle.promela_model.specs.Names.{cells_counted}

-- ---- what a variable's slot is as a name's

abbrev pub variable_of : ℕ × Slot → Variable
variable_of p = record { form = p.1.form; array = p.1.array; length = p.1.length; stride = p.1.stride; offset = p.1.offset; number = p.0 }

abbrev pub as_variable : Option (ℕ × Slot) → Option Variable
as_variable None = None
as_variable (Some p) = Some (variable_of p)

abbrev pub as_thing : Option (ℕ × Slot) → Option Thing
as_thing None = None
as_thing (Some p) = Some (thing.Variable (variable_of p))

abbrev pub as_typedef : Option Structure → Option (ℕ × ℕ)
as_typedef None = None
as_typedef (Some x) = Some (x.number, cells_counted (cells_in_all x.fields))

abbrev pub in_variable : Option Thing → Option Variable
in_variable (Some (thing.Variable x)) = Some x
in_variable _ = None

abbrev pub in_constant : Option Thing → Option ℕ
in_constant (Some (thing.Constant n)) = Some n
in_constant _ = None

abbrev pub in_typedef : Option Thing → Option (ℕ × ℕ)
in_typedef (Some (thing.Typedef t n)) = Some (t, n)
in_typedef _ = None

-- ---- the types of slots are known

abbrev pub has_number : List Structure → ℕ → Bool
has_number [] t = false
has_number (x ∷ xs) t = nat_eq t x.number || has_number xs t

abbrev pub IsKnown : List Structure → Form → Type 0
IsKnown ts (kind.Struct t) = has_number ts t ≡ true
IsKnown ts _ = Unit {0}

abbrev pub AreKnown : List Structure → List Slot → Type 0
AreKnown ts = AllByRecursion (λ (s : Slot). IsKnown ts s.form)
