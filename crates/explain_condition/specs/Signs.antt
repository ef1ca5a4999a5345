-- What marks say, and which of them are looked for.
use Rattle.std.specs.Prelude.{ℕ, nat_eq, nat_lt, Bool, true, false, ◌&&◌, if◌then◌else◌, List, [], ◌∷◌}
use Rattle.promela_model.specs.declared.mark.Declared.{Declared}
use Rattle.promela_model.specs.declared.mark.Declared.TheVariants as declared
use Rattle.promela_model.specs.declared.mark.Role.TheVariants as role
use Rattle.promela_model.specs.declared.mark.Holder.TheVariants as holder
use Rattle.promela_model.specs.declared.mark.Structure.TheVariants as structure
use Rattle.promela_model.specs.declared.mark.Shape.{Shape}
use Rattle.promela_model.specs.declared.mark.What.{What}
use Rattle.promela_model.specs.declared.mark.What.TheVariants as what
use Rattle.promela_model.specs.declared.mark.Mark.{Mark}
use Rattle.explain_condition.specs.declared.sign.Saying.{Saying}
use Rattle.explain_condition.specs.declared.sign.Saying.TheVariants as saying
use Rattle.explain_condition.specs.declared.sign.Lookup.{Lookup}
use Rattle.explain_condition.specs.declared.sign.Lookup.TheVariants as lookup

-- what a name is declared as
abbrev pub declared_as : Declared → Saying
declared_as (declared.Variable role.Variable s n m) = saying.Variable
declared_as (declared.Variable role.Field s n m) = saying.Field
declared_as declared.Constant = saying.Constant
declared_as (declared.Typedef fields) = saying.Typedef fields
declared_as (declared.Proctype number count) = saying.Proctype count

-- what a mark says
abbrev pub saying_of : What → Saying
saying_of (what.Declares w d) = declared_as d
saying_of (what.Uses u ss) = saying.Reference u
saying_of (what.Typedef w) = saying.Wanted
saying_of (what.Runs w n) = saying.Run n
saying_of (what.Prints w n) = saying.Print n
saying_of (what.Number w) = saying.Number
saying_of (what.Width w) = saying.Width
saying_of (what.Size c) = saying.Size c
saying_of (what.Starts c) = saying.Starts c
saying_of (what.Preset c) = saying.Preset
saying_of (what.Channel holder.Chan c n) = saying.Channel c n
saying_of (what.Channel holder.Other c n) = saying.Misplaced c n
saying_of (what.Label w) = saying.Label
saying_of (what.Goto w) = saying.Goto
saying_of what.Break = saying.Break
saying_of what.Unless = saying.Unless
saying_of (what.Enter structure.DStep) = saying.Step
saying_of (what.Enter structure.Do) = saying.Loop
saying_of what.Leave = saying.Leave

-- how many bytes stand before the name in a mark
abbrev pub offset_of : What → ℕ
offset_of (what.Declares w d) = w.line
offset_of (what.Typedef w) = w.line
offset_of (what.Runs w n) = w.line
offset_of (what.Prints w n) = w.line
offset_of (what.Number w) = w.line
offset_of (what.Width w) = w.line
offset_of (what.Label w) = w.line
offset_of (what.Goto w) = w.line
offset_of x = 0

-- the names of a reference
abbrev pub steps_of : What → List Shape
steps_of (what.Uses u ss) = ss
steps_of x = []

-- the same of the first of some marks
abbrev pub first_owner : List Mark → ℕ
first_owner [] = 0
first_owner (m ∷ ms) = m.owner

abbrev pub first_saying : List Mark → Saying
first_saying [] = saying.Leave
first_saying (m ∷ ms) = saying_of m.what

abbrev pub first_offset : List Mark → ℕ
first_offset [] = 0
first_offset (m ∷ ms) = offset_of m.what

abbrev pub first_steps : List Mark → List Shape
first_steps [] = []
first_steps (m ∷ ms) = steps_of m.what

-- a name is declared
abbrev pub is_declared : Saying → Bool
is_declared saying.Variable = true
is_declared saying.Field = true
is_declared saying.Constant = true
is_declared (saying.Typedef fields) = true
is_declared (saying.Proctype count) = true
is_declared s = false

abbrev pub is_label : Saying → Bool
is_label saying.Label = true
is_label s = false

abbrev pub is_variable : Saying → Bool
is_variable saying.Variable = true
is_variable s = false

abbrev pub is_proctype : Saying → Bool
is_proctype (saying.Proctype count) = true
is_proctype s = false

abbrev pub has_fields : Saying → ℕ → Bool
has_fields (saying.Typedef fields) owner = nat_eq fields owner
has_fields s owner = false

-- a mark of this owner that says this is one that is looked for
abbrev pub is_sought : ℕ → Saying → Lookup → Bool
is_sought owner s (lookup.Declared wanted) = nat_eq owner wanted && is_declared s
is_sought owner s (lookup.Label wanted) = nat_eq owner wanted && is_label s
is_sought owner s lookup.AnyLabel = is_label s
is_sought owner s lookup.Local = nat_lt 0 owner && is_variable s
is_sought owner s lookup.Proctype = is_proctype s
is_sought owner s (lookup.Fields wanted) = has_fields s wanted
is_sought owner s lookup.Any = is_declared s

-- the second, where the first declares nothing
abbrev pub or_else : Saying → Saying → Saying
or_else first second = if is_declared first then first else second

abbrev pub only_proctype : Saying → Saying
only_proctype (saying.Proctype count) = saying.Proctype count
only_proctype s = saying.Leave
