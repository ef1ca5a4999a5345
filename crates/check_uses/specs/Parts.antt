-- The marks of parts of a tree.
use Rattle.std.specs.Prelude.{ℕ, ◌+◌, if◌then◌else◌, List, ◌∷◌, ◌++◌, length, map, reverse, flat_map, Option, option_map}
use Rattle.pml_token.specs.Word.{Word}
use Rattle.pml_tree.specs.declared.tree.Expr.{Expr}
use Rattle.pml_tree.specs.declared.tree.Argument.{Argument}
use Rattle.pml_tree.specs.declared.tree.Reference.{Reference}
use Rattle.pml_tree.specs.declared.tree.Step.{Step, fold-Step}
use Rattle.pml_tree.specs.declared.tree.Basic.{Basic, fold-Basic}
use Rattle.pml_tree.specs.declared.tree.Item.{Item, Item-F, fold-Item}
use Rattle.pml_tree.specs.declared.tree.Seq.{Seq-F}
use Rattle.pml_tree.specs.declared.tree.Proctype.{Proctype}
use Rattle.pml_tree.specs.declared.tree.Unit.{Unit as Part}
use Rattle.promela_model.specs.declared.mark.Constant.{Constant}
use Rattle.promela_model.specs.declared.mark.Use.TheVariants.{Channel}
use Rattle.promela_model.specs.declared.mark.Shape.{Shape}
use Rattle.promela_model.specs.declared.mark.Role.TheVariants as role
use Rattle.promela_model.specs.declared.mark.Declared.TheVariants as declared_as
use Rattle.promela_model.specs.declared.mark.What.TheVariants as what
use Rattle.promela_model.specs.declared.mark.Mark.{Mark}
use Rattle.promela_model.specs.Names.{constant}
use Rattle.promela_model.specs.Marks.{Marked, MarkedStep, Referred, mark, all_marks, expr_layer, argument_layer, reference_layer, step_layer, basic_layer, of_expr, of_argument, of_reference, of_starts, of_variables, of_seq, is_proctype}

-- a name of a reference, and the marks of its index
abbrev pub of_step : Step → MarkedStep
of_step = fold-Step Marked Marked Referred MarkedStep argument_layer expr_layer reference_layer step_layer

-- the marks of the labels, and then of the statement
abbrev pub item_layer : Item-F Marked Marked Marked → Marked
item_layer i o = map (λ l. mark o (what.Label l)) i.labels ++ i.basic o

-- the marks of statements, one after the other
abbrev pub seq_layer : Seq-F Marked Marked Marked → Marked
seq_layer s o = all_marks s.items o

-- the marks of a statement
abbrev pub of_basic : Basic → Marked
of_basic = fold-Basic Marked Marked Marked basic_layer item_layer seq_layer

-- the marks of a statement with its labels
abbrev pub of_item : Item → Marked
of_item = fold-Item Marked Marked Marked basic_layer item_layer seq_layer

-- the marks of expressions, one after the other
abbrev pub of_exprs : List Expr → Marked
of_exprs es = all_marks (map of_expr es)

-- the marks of what a receive asks, one after the other
abbrev pub of_arguments : List Argument → Marked
of_arguments rs = all_marks (map of_argument rs)

-- the names of a reference, each with whether it has an index
abbrev pub shapes : List MarkedStep → List Shape
shapes ss = map (λ s. s.shape) ss

-- the marks of the indices, one after the other
abbrev pub steps_marks : List MarkedStep → Marked
steps_marks ss o = flat_map (λ s. s.marks o) ss

-- the size in brackets, if there is one
abbrev pub size_of : Option Expr → Option Constant
size_of size = option_map constant size

-- the marks of the channels of an `xr` or `xs`, one after the other
abbrev pub of_references : List Reference → Marked
of_references rs o = flat_map (λ r. of_reference r Channel o) rs

-- a mark for each label
abbrev pub of_labels : List Word → Marked
of_labels ls o = map (λ l. mark o (what.Label l)) ls

-- the mark of a name of an `mtype`
abbrev pub constant_mark : Word → Mark
constant_mark n = mark 0 (what.Declares n declared_as.Constant)

-- mtype names, from the last of a list to its first, as they are numbered
abbrev pub of_constants : List Word → List Mark
of_constants ns = map (λ n. mark 0 (what.Declares n declared_as.Constant)) (reverse ns)

-- o is the proctype's owner, and k proctypes stand before it
abbrev pub of_process : ℕ → ℕ → Proctype → List Mark
of_process o k p =
    mark 0 (what.Declares p.name (declared_as.Proctype k (length p.parameters))) ∷ (of_starts p.starts o
    ++ (of_variables role.Variable o p.parameters o ++ of_seq p.body o))

-- how many proctypes stand before what follows a unit, where k stand before it
abbrev pub proctypes_past : ℕ → Part → ℕ
proctypes_past k u = if is_proctype u then k + 1 else k
