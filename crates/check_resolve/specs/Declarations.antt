-- Variables, and what they begin with.
use Rattle.std.specs.Prelude.{ℕ, pos, false, if◌then◌else◌, is_some, List, [], ◌∷◌, ◌++◌, map, Option, Some, None}
use Rattle.pml_token.specs.Word.{Word}
use Rattle.pml_tree.specs.declared.tree.Scalar.{Scalar}
use Rattle.pml_tree.specs.declared.tree.Initial.{Initial as TreeInitial}
use Rattle.pml_tree.specs.declared.tree.Initial.TheVariants as t
use Rattle.pml_tree.specs.declared.tree.Variable.{Variable}
use Rattle.promela_model.specs.Marks.{made_by}
use Rattle.check_uses.specs.Parts.{size_of}
use Rattle.promela_model.specs.declared.mark.Constant.{Constant}
use Rattle.promela_model.specs.declared.mark.Constant.TheVariants.{Is}
use Rattle.promela_model.specs.declared.mark.Role.{Role}
use Rattle.promela_model.specs.declared.mark.Declared.TheVariants as declared_as
use Rattle.promela_model.specs.declared.mark.What.{What}
use Rattle.promela_model.specs.declared.mark.What.TheVariants as what
use Rattle.promela_model.specs.declared.thing.Thing.{Thing}
use Rattle.promela_model.specs.declared.thing.Thing.TheVariants as thing
use Rattle.check_names.specs.Entry.{Entry, found}
use Rattle.promela_model.specs.Names.{user, constant}
use Rattle.check_names.specs.Env.{after}
use Rattle.pml_program.specs.declared.form.Form.{Form}
use Rattle.pml_program.specs.declared.form.Form.TheVariants as kind
use Rattle.pml_program.specs.declared.program.Initial.{Initial}
use Rattle.pml_program.specs.declared.program.Initial.TheVariants as i
use Rattle.pml_program.specs.declared.program.Slot.{Slot}
use Rattle.check_resolve.specs.Numbered.{Scope, scope, numbered}

-- what is declared so far: all names, and the variables of one owner
pub record Known : Type 0 where
  pub names : List Entry
  pub slots : List Slot

abbrev pub known : List Entry → List Slot → Known
known es ss = record { names = es; slots = ss }

-- a number of processes or messages: one below 0, and what is no constant, are refused by themselves
abbrev pub natural : Constant → ℕ
natural (Is (pos n)) = n
natural _ = 0

abbrev pub plain : Scalar → Form
plain s = kind.Plain s

abbrev pub initial : Option TreeInitial → Scope → Initial
initial None sc = i.Zero
initial (Some (t.Value e)) sc = i.Value (numbered e sc)
initial (Some (t.Channel e ss)) sc = i.Channel (natural (constant e)) (map plain ss)

-- a variable as its name is declared
abbrev pub slot : Word → Initial → Option Thing → Slot
slot n begins (Some (thing.Variable x)) =
    record { name = n; form = x.form; array = x.array; offset = x.offset; length = x.length; stride = x.stride; initial = begins }
slot n begins _ = record { name = n; form = kind.Unknown; array = false; offset = 0; length = 1; stride = 1; initial = begins }

abbrev pub declares : Role → Variable → What
declares x v = what.Declares v.name (declared_as.Variable x v.sort (size_of v.size) (made_by v.initial))

-- a variable of the owner o, whose initialiser stands among the names before it
abbrev pub added_variable : List Entry → Role → ℕ → Variable → Known → Known
added_variable all x o v k =
    let es = after k.names o (declares x v) in
    let begins = initial v.initial (scope all k.names (user x o)) in
    known es (k.slots ++ slot v.name begins (found es o v.name.text) ∷ [])

-- One variable more. Of two declarations of one name the first counts.
abbrev pub with_variable : List Entry → Role → ℕ → Variable → Known → Known
with_variable all x o v k = if is_some (found k.names o v.name.text) then k else added_variable all x o v k

abbrev pub with_variables : List Entry → Role → ℕ → List Variable → Known → Known
with_variables all x o [] k = k
with_variables all x o (v ∷ vs) k = with_variables all x o vs (with_variable all x o v k)
