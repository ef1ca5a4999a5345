-- Rows: a tree of each production, and what it stands for, put together by hand. What is declared before it: `mtype = { green, red };
-- typedef R { byte e; byte f[2] }; byte x; R r[2]; chan q = [1] of { byte }`, and in the proctype A `byte x; byte y`.
use Rattle.std.proofs.Common.{◌≡◌, ℕ, true, false, List, [], ◌∷◌, Option, Some, None, pos, negsuc, refl}
use Rattle.std.specs.Prelude.{codes, reverse}
use Rattle.pml_token.specs.Word.{Word}
use Rattle.pml_token.specs.declared.token.Kind.TheVariants as word
use Rattle.pml_tree.specs.declared.tree.Scalar.TheVariants as scalar
use Rattle.pml_tree.specs.declared.tree.Sign.TheVariants as sign
use Rattle.pml_tree.specs.declared.tree.Fill.TheVariants as fill
use Rattle.pml_tree.specs.declared.tree.Infix.TheVariants as op
use Rattle.pml_tree.specs.declared.tree.Prefix.TheVariants as prefix
use Rattle.pml_tree.specs.declared.tree.Search.TheVariants as look
use Rattle.pml_tree.specs.declared.tree.Removal.TheVariants as removal
use Rattle.pml_tree.specs.declared.tree.SendOrder.TheVariants as order
use Rattle.pml_tree.specs.declared.tree.Sort.TheVariants as sort
use Rattle.pml_tree.specs.declared.tree.Initial.TheVariants as begin
use Rattle.pml_tree.specs.declared.tree.Initial.{Initial as TreeInitial}
use Rattle.pml_tree.specs.declared.tree.Starts.TheVariants as starts
use Rattle.pml_tree.specs.declared.tree.Variable.{Variable}
use Rattle.pml_tree.specs.declared.tree.Expr.{Expr as TreeExpr}
use Rattle.pml_tree.specs.declared.tree.Expr.TheVariants as e
use Rattle.pml_tree.specs.declared.tree.Argument.TheVariants as g
use Rattle.pml_tree.specs.declared.tree.Reference.{Reference}
use Rattle.pml_tree.specs.declared.tree.Action.{Action as TreeAction}
use Rattle.pml_tree.specs.declared.tree.Action.TheVariants as t
use Rattle.pml_tree.specs.declared.tree.Basic.TheVariants as form
use Rattle.pml_tree.specs.declared.tree.Seq.{Seq as TreeSeq}
use Rattle.pml_tree.specs.declared.tree.Proctype.{Proctype as TreeProctype}
use Rattle.pml_tree.specs.declared.tree.Unit.TheVariants as part
use Rattle.promela_model.specs.declared.mark.Role.TheVariants as role
use Rattle.pml_program.specs.declared.form.Form.{Form}
use Rattle.pml_program.specs.declared.form.Form.TheVariants as kind
use Rattle.pml_program.specs.declared.program.Initial.TheVariants as i
use Rattle.pml_program.specs.declared.program.Slot.{Slot}
use Rattle.pml_program.specs.declared.program.Action.{Action}
use Rattle.pml_program.specs.declared.program.Action.TheVariants as a
use Rattle.pml_program.specs.declared.program.Basic.TheVariants as b
use Rattle.pml_program.specs.declared.program.Seq.{Seq}
use Rattle.pml_program.specs.declared.expr.Expr.TheVariants as v
use Rattle.pml_program.specs.declared.expr.Want.TheVariants as w
use Rattle.pml_program.specs.declared.expr.Target.{Target}
use Rattle.meaning_laws.proofs.Words.{stmt_of, steps_of, nothing_of, with_constants, program_of}
use Rattle.promela_model.specs.Stands
use Rattle.promela_model.specs.Stands.{Place, Mtype, Pid, Count, Anything, Nothing, turn_to, target_at, StandsExpr, StandsReference, StandsArgument, Globals, constant_named}
use Rattle.promela_grammar.specs.Expressions.{named_step, reference_of}
use Rattle.promela_model.specs.StandsModel as statement
use Rattle.promela_model.specs.StandsModel.{StandsModel, StandsAction, StandsBasic, StandsItems, StandsSeq, StandsVariables, StandsVariable, StandsRun}
use Rattle.promela_grammar.specs.Actions.{item_of, seq_of}

abbrev named : List ℕ → Word
named n = record { kind = word.Name; text = n; line = 1 }

abbrev digits : List ℕ → Word
digits n = record { kind = word.Number; text = n; line = 1 }

abbrev slot : List ℕ → Form → ℕ → ℕ → ℕ → Slot
slot n f offset length stride = record { name = named n; form = f; array = false; offset = offset; length = length; stride = stride; initial = i.Zero }

abbrev byte : Form
byte = kind.Plain scalar.Byte

abbrev field_e : Slot
field_e = slot (codes "e") byte 0 1 1

abbrev field_f : Slot
field_f = slot (codes "f") byte 1 2 1

abbrev global_x : Slot
global_x = slot (codes "x") byte 0 1 1

abbrev global_r : Slot
global_r = slot (codes "r") (kind.Struct 2) 1 2 3

abbrev global_q : Slot
global_q = slot (codes "q") (kind.Plain scalar.Chan) 7 1 1

abbrev local_x : Slot
local_x = slot (codes "x") byte 0 1 1

abbrev local_y : Slot
local_y = slot (codes "y") byte 1 1 1

abbrev empty : TreeSeq
empty = seq_of []

abbrev process : List ℕ → TreeProctype
process n = record { starts = starts.Never; name = named n; parameters = []; body = empty; end = named (codes "}") }

abbrev gs : Globals
gs = record {
  text = part.Constants (named (codes "green") ∷ named (codes "red") ∷ []) ∷ part.Typedef (named (codes "R")) [] ∷ part.Proctype (process (codes "A")) ∷ part.Proctype (process (codes "B")) ∷ [];
  variables = global_x ∷ global_r ∷ global_q ∷ [];
  constants = named (codes "red") ∷ named (codes "green") ∷ [];
  typedefs = record { name = named (codes "R"); number = 2; fields = field_e ∷ field_f ∷ [] } ∷ [];
  proctypes = named (codes "A") ∷ [];
}

abbrev ls : List Slot
ls = local_x ∷ local_y ∷ []

abbrev alone : List ℕ → Reference
alone n = reference_of (named_step (named n) None) []

abbrev at_x : Target
at_x = target_at true 0 byte (turn_to 0 local_x None ∷ [])

abbrev at_q : Target
at_q = target_at false 2 (kind.Plain scalar.Chan) (turn_to 0 global_q None ∷ [])

abbrev variable : List ℕ → Option TreeExpr → Option TreeInitial → Variable
variable n size begins = record { sort = sort.Plain scalar.Byte; name = named n; size = size; initial = begins }

-- ---- references

-- `x` is the local one
own : StandsReference gs ls (alone (codes "x")) (Place at_x)
own = Stands.local_variable (Stands.step Stands.no_index) refl refl Stands.no_field

-- before the proctype has one, `x` is the global one
global : StandsReference gs [] (alone (codes "x")) (Place (target_at false 0 byte (turn_to 0 global_x None ∷ [])))
global = Stands.global_variable (Stands.step Stands.no_index) refl refl refl Stands.no_field

-- `r[1].f[x]`: the field f begins one cell behind e
through_fields : StandsReference gs ls (reference_of (named_step (named (codes "r")) (Some (e.Number (digits (codes "1"))))) (named_step (named (codes "f")) (Some (e.Read (alone (codes "x")))) ∷ []))
    (Place (target_at false 1 byte (turn_to 0 global_r (Some (v.Number (pos 1))) ∷ turn_to 1 field_f (Some (v.Read at_x)) ∷ [])))
through_fields =
    Stands.global_variable (Stands.step (Stands.index (Stands.number (digits (codes "1"))))) refl refl refl
    (Stands.field (Stands.step (Stands.index (Stands.read own))) refl Stands.no_field)

channel : StandsReference gs ls (alone (codes "q")) (Place at_q)
channel = Stands.global_variable (Stands.step Stands.no_index) refl refl refl Stands.no_field

-- `mtype = { green, red }` gives red 1 and green 2
red : StandsReference gs ls (alone (codes "red")) (Mtype 1)
red = Stands.mtype_name [] (Stands.step Stands.no_index) refl refl refl

green : constant_named (with_constants (nothing_of []) (reverse (named (codes "green") ∷ named (codes "red") ∷ []))).constants (codes "green") ≡ Some 2
green = refl

pid : StandsReference gs ls (alone (codes "_pid")) Pid
pid = Stands.special_name [] (Stands.step Stands.no_index) refl

living : StandsReference gs ls (alone (codes "_nr_pr")) Count
living = Stands.special_name [] (Stands.step Stands.no_index) refl

anything : StandsReference gs ls (alone (codes "_")) Anything
anything = Stands.special_name [] (Stands.step Stands.no_index) refl

unknown : StandsReference gs ls (alone (codes "z")) Nothing
unknown = Stands.no_name [] (Stands.step Stands.no_index) refl refl refl refl

-- ---- expressions

-- `4294967295` is the signed number of the same bits, and `true` and `skip` are 1
numbers : StandsExpr gs ls (e.Binary op.Minus (e.Number (digits (codes "4294967295"))) (e.Truth true)) (v.Binary op.Minus (v.Number (negsuc 0)) (v.Number (pos 1)))
numbers = Stands.binary op.Minus (Stands.number (digits (codes "4294967295"))) (Stands.truth true)

-- `(x -> _pid : _nr_pr)`
choice : StandsExpr gs ls (e.Choice (e.Read (alone (codes "x"))) (e.Read (alone (codes "_pid"))) (e.Read (alone (codes "_nr_pr")))) (v.Choice (v.Read at_x) v.Pid v.ProcessCount)
choice = Stands.choice (Stands.read own) (Stands.read pid) (Stands.read living)

-- `!timeout`
no_timeout : StandsExpr gs ls (e.Unary prefix.Not e.Timeout) (v.Unary prefix.Not v.Timeout)
no_timeout = Stands.unary prefix.Not Stands.timeout

-- `nfull(q)`
asked : StandsExpr gs ls (e.Ask fill.IsNotFull (alone (codes "q"))) (v.Ask fill.IsNotFull at_q)
asked = Stands.ask fill.IsNotFull channel

-- `q??[red]`
polled : StandsExpr gs ls (e.Poll (alone (codes "q")) look.Matching (g.Into (alone (codes "red")) ∷ [])) (v.Poll at_q look.Matching (w.Exactly (pos 1) ∷ []))
polled = Stands.poll look.Matching channel (Stands.argument (Stands.into red) Stands.no_argument)

-- ---- statements

-- `q??<x, _, eval(x), 7>`: the first that matches, and it stays
receive : StandsAction gs ls (t.Receive (alone (codes "q")) look.Matching removal.Keep (g.Into (alone (codes "x")) ∷ g.Into (alone (codes "_")) ∷ g.Eval (e.Read (alone (codes "x"))) ∷ g.Exactly sign.Plus (digits (codes "7")) ∷ []))
    (a.Receive at_q look.Matching removal.Keep (w.Into at_x ∷ w.Anything ∷ w.Equal (v.Read at_x) ∷ w.Exactly (pos 7) ∷ []))
receive =
    statement.receive channel
    (Stands.argument (Stands.into own) (Stands.argument (Stands.into anything) (Stands.argument (Stands.equal (Stands.read own)) (Stands.argument (Stands.exactly sign.Plus (digits (codes "7"))) Stands.no_argument))))

-- `q!!x`
send : StandsAction gs ls (t.Send (alone (codes "q")) order.Sorted (e.Read (alone (codes "x")) ∷ [])) (a.Send at_q order.Sorted (v.Read at_x ∷ []))
send = statement.send channel (Stands.read own, tt)

-- `_ = x`, which stores nowhere
dropped : StandsAction gs ls (t.Assign (alone (codes "_")) (e.Read (alone (codes "x")))) (a.Assign None (v.Read at_x))
dropped = statement.assign anything (Stands.read own)

-- `x = run A(red)`: A is the first proctype
running : StandsAction gs ls (t.AssignRun (alone (codes "x")) (record { name = named (codes "A"); arguments = e.Read (alone (codes "red")) ∷ [] })) (a.AssignRun (Some at_x) (record { proctype = 0; arguments = v.Number (pos 1) ∷ [] }))
running = statement.assign_run own (statement.run (Stands.read red, tt))

-- `run B()`: B is the second one
running_next : StandsAction gs ls (t.Run (record { name = named (codes "B"); arguments = [] })) (a.Run (record { proctype = 1; arguments = [] }))
running_next = statement.run_alone (statement.run tt)

more : StandsAction gs ls (t.Increment (alone (codes "x"))) (a.Increment at_x)
more = statement.increment own

asserted : StandsAction gs ls (t.Assert (e.Read (alone (codes "x")))) (a.Assert (v.Read at_x))
asserted = statement.assert (Stands.read own)

condition : StandsAction gs ls (t.Holds (e.Read (alone (codes "x")))) (a.Holds (v.Read at_x))
condition = statement.holds (Stands.read own)

printed : StandsAction gs ls (t.Printm (e.Read (alone (codes "red")))) (a.Printm (v.Number (pos 1)))
printed = statement.printm (Stands.read red)

-- ---- bodies

-- one statement without labels and tokens
abbrev only : TreeAction → TreeSeq
only x = seq_of (item_of [] (form.Plain x) [] ∷ [])

abbrev step_only : Action → Seq
step_only x = steps_of (stmt_of [] (b.Plain x) [] ∷ [])

one : {x : TreeAction} {y : Action} → StandsAction gs ls x y → StandsSeq gs ls (only x) (step_only y) ls
one h = statement.sequence (statement.one_step (statement.plain h) statement.no_item)

abbrev plus : TreeAction
plus = t.Increment (alone (codes "x"))

abbrev test : TreeAction
test = t.Holds (e.Read (alone (codes "x")))

-- `{ x++ } unless { x }`: the main part first
unless : StandsBasic gs ls (form.Unless (only plus) (only test)) (Some (b.Unless (step_only (a.Increment at_x)) (step_only (a.Holds (v.Read at_x))))) ls
unless = statement.unless (one more) (one condition)

atomic : StandsBasic gs ls (form.Atomic (only plus)) (Some (b.Atomic (step_only (a.Increment at_x)))) ls
atomic = statement.atomic (one more)

braces : StandsBasic gs ls (form.Block (only plus)) (Some (b.Block (step_only (a.Increment at_x)))) ls
braces = statement.block (one more)

steps : StandsBasic gs ls (form.DStep (only plus)) (Some (b.DStep (step_only (a.Increment at_x)))) ls
steps = statement.d_step (one more)

-- `do :: x++ :: x od`
loop : StandsBasic gs ls (form.Do (only plus ∷ only test ∷ [])) (Some (b.Do (step_only (a.Increment at_x) ∷ step_only (a.Holds (v.Read at_x)) ∷ []))) ls
loop = statement.do_od (statement.option (one more) (statement.option (one condition) statement.no_option))

-- `if :: x++ fi`
choose : StandsBasic gs ls (form.If (only plus ∷ [])) (Some (b.If (step_only (a.Increment at_x) ∷ []))) ls
choose = statement.if_fi (statement.option (one more) statement.no_option)

-- `L: goto L; byte z; break`: a declaration takes no step, and its variable stands behind the others
jumps : StandsSeq gs ls (seq_of (item_of (named (codes "L") ∷ []) (form.Goto (named (codes "L"))) (named (codes "goto") ∷ []) ∷ item_of [] (form.Declare (variable (codes "z") None None ∷ [])) [] ∷ item_of [] form.Break [] ∷ []))
    (steps_of (stmt_of (named (codes "L") ∷ []) (b.Goto (named (codes "L"))) (named (codes "goto") ∷ []) ∷ stmt_of [] b.Break [] ∷ [])) (local_x ∷ local_y ∷ slot (codes "z") byte 2 1 1 ∷ [])
jumps =
    statement.sequence (statement.one_step statement.goto
    (statement.no_step (statement.declare (statement.new_variable refl (statement.variable (statement.plain_sort scalar.Byte) statement.no_initial) statement.no_variable))
    (statement.one_step statement.break statement.no_item)))

-- `printf("..", x)` and `else`
written : StandsAction gs ls (t.Printf (named (codes "..")) (e.Read (alone (codes "x")) ∷ [])) (a.Printf (named (codes "..")) (v.Read at_x ∷ []))
written = statement.printf (Stands.read own, tt)

otherwise : StandsAction gs ls t.Else a.Else
otherwise = statement.otherwise

less : StandsAction gs ls (t.Decrement (alone (codes "x"))) (a.Decrement at_x)
less = statement.decrement own

-- ---- declarations

-- `byte e; byte h` as fields: h begins one cell behind e
fields : StandsVariables gs role.Field [] (variable (codes "e") None None ∷ variable (codes "h") None None ∷ []) (field_e ∷ slot (codes "h") byte 1 1 1 ∷ [])
fields =
    statement.new_variable refl (statement.variable (statement.plain_sort scalar.Byte) statement.no_initial)
    (statement.new_variable refl (statement.variable (statement.plain_sort scalar.Byte) statement.no_initial) statement.no_variable)

-- `byte x = x` in a proctype: the initialiser is the global x
initialised : StandsVariables gs role.Variable [] (variable (codes "x") None (Some (begin.Value (e.Read (alone (codes "x"))))) ∷ []) (record local_x { initial = i.Value (v.Read (target_at false 0 byte (turn_to 0 global_x None ∷ []))) } ∷ [])
initialised = statement.new_variable refl (statement.variable (statement.plain_sort scalar.Byte) (statement.value_initial (Stands.read global))) statement.no_variable

-- of two declarations of one name the first counts
again : StandsVariables gs role.Variable ls (variable (codes "y") None None ∷ []) ls
again = statement.old_variable refl statement.no_variable

-- ---- a whole model: `byte x; init { x++ }`

abbrev init_x : TreeProctype
init_x = record { starts = starts.Once; name = named (codes "init"); parameters = []; body = only plus; end = named (codes "}") }

whole : StandsModel (record { units = part.Variables (variable (codes "x") None None ∷ []) ∷ part.Proctype init_x ∷ [] })
    (program_of (global_x ∷ []) [] []
    (record { name = named (codes "init"); owner = 2; starts = 1; parameters = 0; variables = []; body = step_only (a.Increment (target_at false 0 byte (turn_to 0 global_x None ∷ []))); end = named (codes "}") } ∷ []))
whole =
    statement.model (statement.variables (statement.new_global refl (statement.variable (statement.plain_sort scalar.Byte) statement.no_initial) statement.no_global)
    (statement.proctype statement.no_variable
    (statement.sequence (statement.one_step (statement.plain (statement.increment (Stands.global_variable (Stands.step Stands.no_index) refl refl refl Stands.no_field))) statement.no_item)) statement.no_unit))
