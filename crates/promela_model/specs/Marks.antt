-- The marks of a model, in the order of the text.
-- Hold it against docs/REFUSALS.md, M6 to M17.
use Rattle.std.specs.Prelude.{Bool, true, false, ℕ, ◌+◌, if◌then◌else◌, List, [], ◌∷◌, ◌++◌, length, map, flat_map, Option, Some, None, is_some, unwrap_or, option_map, pos, reverse}
use Rattle.pml_tree.specs.declared.tree.Scalar.TheVariants.{Chan}
use Rattle.pml_tree.specs.declared.tree.Expr.{Expr, Expr-F, fold-Expr, out-Expr}
use Rattle.pml_tree.specs.declared.tree.Argument.{Argument, Argument-F, fold-Argument}
use Rattle.pml_tree.specs.declared.tree.Reference.{Reference, Reference-F, fold-Reference}
use Rattle.pml_tree.specs.declared.tree.Step.{Step, Step-F}
use Rattle.pml_tree.specs.declared.tree.Sort.{Sort}
use Rattle.pml_tree.specs.declared.tree.Sort.TheVariants as sort
use Rattle.pml_tree.specs.declared.tree.Initial.{Initial}
use Rattle.pml_tree.specs.declared.tree.Initial.TheVariants as initial
use Rattle.pml_tree.specs.declared.tree.Variable.{Variable}
use Rattle.pml_tree.specs.declared.tree.Run.{Run}
use Rattle.pml_tree.specs.declared.tree.Action.{Action}
use Rattle.pml_tree.specs.declared.tree.Action.TheVariants as action
use Rattle.pml_tree.specs.declared.tree.Basic.{Basic-F}
use Rattle.pml_tree.specs.declared.tree.Seq.{Seq, fold-Seq}
use Rattle.promela_model.specs.declared.mark.Use.{Use}
use Rattle.promela_model.specs.declared.mark.Use.TheVariants.{Read, Store, Update, Receive, Channel}
use Rattle.promela_model.specs.declared.mark.Use.TheVariants as use_of
use Rattle.promela_model.specs.declared.mark.Shape.{Shape}
use Rattle.promela_model.specs.declared.mark.Role.{Role}
use Rattle.promela_model.specs.declared.mark.Role.TheVariants as role
use Rattle.promela_model.specs.declared.mark.Makes.{Makes}
use Rattle.promela_model.specs.declared.mark.Makes.TheVariants.{Numbers, Channels}
use Rattle.promela_model.specs.declared.mark.Holder.{Holder}
use Rattle.promela_model.specs.declared.mark.Holder.TheVariants as holder_of
use Rattle.promela_model.specs.declared.mark.Structure.TheVariants.{Do, DStep}
use Rattle.promela_model.specs.declared.mark.Declared.TheVariants as declared_as
use Rattle.promela_model.specs.declared.mark.What.{What}
use Rattle.promela_model.specs.declared.mark.What.TheVariants as what
use Rattle.promela_model.specs.declared.mark.Mark.{Mark}
use Rattle.pml_tree.specs.declared.tree.Starts.{Starts}
use Rattle.pml_tree.specs.declared.tree.Starts.TheVariants as starts
use Rattle.pml_tree.specs.declared.tree.Unit.{Unit as Part}
use Rattle.pml_tree.specs.declared.tree.Unit.TheVariants as part
use Rattle.pml_tree.specs.declared.tree.Tree.{Tree}
use Rattle.promela_model.specs.declared.mark.Constant.TheVariants as constant
use Rattle.promela_model.specs.Names.{constant}

-- by the owner of the names that stand there
abbrev pub Marked : Type 0
Marked = ℕ → List Mark

-- a mark of an owner
abbrev pub mark : ℕ → What → Mark
mark o w = record { owner = o; what = w }

-- a single mark
abbrev pub one_mark : What → Marked
one_mark w o = mark o w ∷ []

-- ---- expressions

-- a step of a reference: its name and whether it has an index, and the marks of that index
pub record MarkedStep : Type 0 where
  pub shape : Shape
  pub marks : Marked

-- the marks of a reference, by how it is used
abbrev pub Referred : Type 0
Referred = Use → Marked

-- one after the other
abbrev pub all_marks : List Marked → Marked
all_marks ms o = flat_map (λ m. m o) ms

-- the marks of an expression by those of its parts
abbrev pub expr_layer : Expr-F Marked Marked Referred MarkedStep → Marked
expr_layer (Expr-F.Number n) o = one_mark (what.Number n) o
expr_layer (Expr-F.Read r) o = r Read o
expr_layer (Expr-F.Ask f r) o = r Channel o
expr_layer (Expr-F.Poll r search ms) o = r Channel o ++ all_marks ms o
expr_layer (Expr-F.Unary op a) o = a o
expr_layer (Expr-F.Binary op a b) o = a o ++ b o
expr_layer (Expr-F.Choice a b c) o = a o ++ (b o ++ c o)
expr_layer _ o = []

-- the marks of what a receive asks by those of its parts
abbrev pub argument_layer : Argument-F Marked Marked Referred MarkedStep → Marked
argument_layer (Argument-F.Exactly sign n) o = one_mark (what.Number n) o
argument_layer (Argument-F.Fixed b) o = []
argument_layer (Argument-F.Eval a) o = a o
argument_layer (Argument-F.Into r) o = r Receive o

-- the marks of the indices, and then that of the reference
abbrev pub reference_layer : Reference-F Marked Marked Referred MarkedStep → Referred
reference_layer r u o =
    r.first.marks o ++ (flat_map (λ s. s.marks o) r.fields
    ++ one_mark (what.Uses u (r.first.shape ∷ map (λ s. s.shape) r.fields)) o)

-- a name of a reference: whether it has an index, and the marks of that
abbrev pub step_layer : Step-F Marked Marked Referred MarkedStep → MarkedStep
step_layer s =
    record { shape = record { name = s.name; indexed = is_some s.index }; marks = unwrap_or s.index (λ o. []) }

-- the marks of an expression
abbrev pub of_expr : Expr → Marked
of_expr = fold-Expr Marked Marked Referred MarkedStep argument_layer expr_layer reference_layer step_layer

-- the marks of what a receive asks
abbrev pub of_argument : Argument → Marked
of_argument = fold-Argument Marked Marked Referred MarkedStep argument_layer expr_layer reference_layer step_layer

-- the marks of a reference, by how it is used
abbrev pub of_reference : Reference → Referred
of_reference = fold-Reference Marked Marked Referred MarkedStep argument_layer expr_layer reference_layer step_layer

-- ---- declarations

-- a width is a number too, and a typedef's name is wanted
abbrev pub of_sort : Sort → Marked
of_sort (sort.Plain t) o = []
of_sort (sort.Unsigned n) o = one_mark (what.Number n) o ++ one_mark (what.Width n) o
of_sort (sort.Named t) o = one_mark (what.Typedef t) o

-- the marks of a size in brackets, and then the size itself
abbrev pub of_size : Option Expr → Marked
of_size None o = []
of_size (Some e) o = of_expr e o ++ one_mark (what.Size (constant e)) o

-- what a channel initialiser stands behind
abbrev pub holder : Sort → Holder
holder (sort.Plain Chan) = holder_of.Chan
holder _ = holder_of.Other

-- the initialiser of a typedef's field: a name alone is to be an mtype name
abbrev pub preset_layer : Expr → Expr-F Argument Expr Reference Step → Marked
preset_layer e (Expr-F.Read r) o = of_reference r use_of.Preset o
preset_layer e _ o = of_expr e o ++ one_mark (what.Preset (constant e)) o

-- the marks of an initialiser
abbrev pub of_initial : Role → Sort → Option Initial → Marked
of_initial x s None o = []
of_initial role.Field s (Some (initial.Value e)) o = preset_layer e (out-Expr e) o
of_initial role.Variable s (Some (initial.Value e)) o = of_expr e o
of_initial x s (Some (initial.Channel e ts)) o = of_expr e o ++ one_mark (what.Channel (holder s) (constant e) (length ts)) o

-- what an initialiser makes
abbrev pub made_by : Option Initial → Makes
made_by (Some (initial.Channel e ts)) = Channels
made_by _ = Numbers

-- What is used stands for o, and what is declared is p's; it is declared behind its initialiser.
abbrev pub of_variable : Role → ℕ → Variable → Marked
of_variable x p v o =
    of_sort v.sort o ++ (of_size v.size o ++ (of_initial x v.sort v.initial o
    ++ one_mark (what.Declares v.name (declared_as.Variable x v.sort (option_map constant v.size) (made_by v.initial))) p))

-- the marks of variables, one after the other
abbrev pub of_variables : Role → ℕ → List Variable → Marked
of_variables x p vs o = flat_map (λ v. of_variable x p v o) vs

-- ---- statements

-- the marks of the arguments of a `run`, and then that of the proctype's name
abbrev pub of_run : Run → Marked
of_run r o = all_marks (map of_expr r.arguments) o ++ one_mark (what.Runs r.name (length r.arguments)) o

-- the marks of a statement without a structure
abbrev pub of_action : Action → Marked
of_action action.Else o = []
of_action (action.Assign r e) o = of_reference r Store o ++ of_expr e o
of_action (action.AssignRun r p) o = of_reference r Store o ++ of_run p o
of_action (action.Increment r) o = of_reference r Update o
of_action (action.Decrement r) o = of_reference r Update o
of_action (action.Run p) o = of_run p o
of_action (action.Send r order es) o = of_reference r Channel o ++ all_marks (map of_expr es) o
of_action (action.Receive r search how rs) o = of_reference r Channel o ++ all_marks (map of_argument rs) o
of_action (action.Printf t es) o = all_marks (map of_expr es) o ++ one_mark (what.Prints t (length es)) o
of_action (action.Printm e) o = of_expr e o
of_action (action.Assert e) o = of_expr e o
of_action (action.Holds e) o = of_expr e o

-- the marks of a statement by those of its parts
abbrev pub basic_layer : Basic-F Marked Marked Marked → Marked
basic_layer (Basic-F.Declare vs) o = of_variables role.Variable o vs o
basic_layer (Basic-F.Exclusive rs) o = flat_map (λ r. of_reference r Channel o) rs
basic_layer (Basic-F.Plain a) o = of_action a o
basic_layer (Basic-F.Goto l) o = one_mark (what.Goto l) o
basic_layer Basic-F.Break o = one_mark what.Break o
basic_layer (Basic-F.If ms) o = all_marks ms o
basic_layer (Basic-F.Do ms) o = one_mark (what.Enter Do) o ++ (all_marks ms o ++ one_mark what.Leave o)
basic_layer (Basic-F.Block m) o = m o
basic_layer (Basic-F.Atomic m) o = m o
basic_layer (Basic-F.DStep m) o = one_mark (what.Enter DStep) o ++ (m o ++ one_mark what.Leave o)
basic_layer (Basic-F.Unless m e) o = one_mark what.Unless o ++ (m o ++ e o)

-- the marks of statements one behind another: of each those of its labels, and then its own
abbrev pub of_seq : Seq → Marked
of_seq = fold-Seq Marked Marked Marked basic_layer (λ i o. map (λ l. mark o (what.Label l)) i.labels ++ i.basic o) (λ s o. all_marks s.items o)

-- ---- units, and a whole model

-- the marks of how many processes begin
abbrev pub of_starts : Starts → Marked
of_starts starts.Never o = []
of_starts starts.Once o = one_mark (what.Starts (constant.Is (pos 1))) o
of_starts (starts.Times e) o = of_expr e 0 ++ one_mark (what.Starts (constant e)) o

-- a unit that is a proctype
abbrev pub is_proctype : Part → Bool
is_proctype (part.Proctype p) = true
is_proctype _ = false

-- o is the unit's number from 1, and k proctypes stand before it; mtype names are marked from the last of a list to its
-- first, as they are numbered
abbrev pub of_unit : ℕ → ℕ → Part → List Mark
of_unit o k (part.Variables vs) = of_variables role.Variable 0 vs 0
of_unit o k (part.Constants ns) = map (λ n. mark 0 (what.Declares n declared_as.Constant)) (reverse ns)
of_unit o k (part.Typedef t vs) = of_variables role.Field o vs 0 ++ one_mark (what.Declares t (declared_as.Typedef o)) 0
of_unit o k (part.Proctype p) =
    mark 0 (what.Declares p.name (declared_as.Proctype k (length p.parameters))) ∷ (of_starts p.starts o
    ++ (of_variables role.Variable o p.parameters o ++ of_seq p.body o))

-- the marks of the units from this one on, which has this number, and before which so many proctypes stand
abbrev pub of_units : ℕ → ℕ → List Part → List Mark
of_units o k [] = []
of_units o k (u ∷ us) = of_unit o k u ++ of_units (o + 1) (if is_proctype u then k + 1 else k) us

-- all marks of a model
abbrev pub of_tree : Tree → List Mark
of_tree t = of_units 1 0 t.units
