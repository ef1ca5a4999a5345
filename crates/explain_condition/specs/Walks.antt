-- Where a reference leads, and which of its names that is told of.
use Rattle.std.specs.Prelude.{ℕ, ◌-◌, Bool, true, false, List, slice_get, Option, Some, None}
use Rattle.pml_program.specs.declared.form.Form.{Form}
use Rattle.pml_program.specs.declared.form.Form.TheVariants as form
use Rattle.promela_model.specs.declared.mark.Shape.{Shape}
use Rattle.promela_model.specs.declared.thing.Thing.{Thing}
use Rattle.promela_model.specs.declared.thing.Thing.TheVariants as thing
use Rattle.explain_condition.specs.declared.walk.ReferenceEnd.{ReferenceEnd}
use Rattle.explain_condition.specs.declared.walk.ReferenceEnd.TheVariants as end
use Rattle.explain_condition.specs.declared.walk.Index.{Index}
use Rattle.explain_condition.specs.declared.walk.Index.TheVariants as index
use Rattle.explain_condition.specs.declared.walk.Step.{Step}
use Rattle.explain_condition.specs.declared.walk.Step.TheVariants as step

-- the name of this number is lacking among the fields of a variable of this type
abbrev pub lacking : Form → ℕ → ReferenceEnd
lacking (form.Struct owner) number = end.Lacking number owner
lacking f number = end.Other

-- what is found of a name
abbrev pub step_of : Thing → Step
step_of (thing.Variable v) = step.Variable v.array v.form
step_of t = step.Last end.Other

abbrev pub step_of_name : Option Thing → Step
step_of_name (Some t) = step_of t
step_of_name None = step.Last end.Other

abbrev pub step_of_field : Option (Option Thing) → Form → ℕ → Step
step_of_field (Some (Some t)) f number = step_of t
step_of_field (Some None) f number = step.Last (lacking f number)
step_of_field None f number = step.Last (end.NoFields number)

-- the first index that is not right, at the name of this number or before it
abbrev pub index_at : Bool → Bool → ℕ → Index
index_at true true number = index.Right
index_at false false number = index.Right
index_at false true number = index.Missing number
index_at true false number = index.Extra number

abbrev pub index_of : Index → ℕ → Bool → Bool → Index
index_of index.Right number indexed array = index_at indexed array number
index_of i number indexed array = i

-- how many bytes stand before a name of a reference
abbrev pub offset_of : Option Shape → ℕ
offset_of None = 0
offset_of (Some s) = s.name.line

abbrev pub offset_at : List Shape → ℕ → ℕ
offset_at ss number = offset_of (slice_get ss number)

-- the number of the name that is told of, by where a reference ends, and by its indexes; of so many names
abbrev pub end_told : ReferenceEnd → ℕ → ℕ
end_told (end.Form f) count = count - 1
end_told (end.NoFields number) count = number
end_told e count = 0

abbrev pub told_number : Index → ReferenceEnd → ℕ → ℕ
told_number (index.Missing number) e count = number
told_number (index.Extra number) e count = number
told_number index.Right e count = end_told e count
