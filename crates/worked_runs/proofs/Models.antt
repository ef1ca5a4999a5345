-- Words for models as data.
use Rattle.std.proofs.Common.{ℕ, ◌-◌, Bool, true, false, List, [], ◌∷◌, ◌++◌, map, take, Option, Some, None}
use Rattle.std.specs.Prelude.{codes, drop, pos, slice_index_or}
use Prim.Native.String.{String}
use Rattle.promela_session.specs.declared.ends.Options.{Options}
use Rattle.pml_token.specs.Word.{Word}
use Rattle.pml_token.specs.declared.token.Kind.{Kind}
use Rattle.pml_token.specs.declared.token.Kind.TheVariants as kind
use Rattle.pml_tree.specs.declared.tree.Scalar.TheVariants as scalar
use Rattle.pml_program.specs.declared.form.Form.{Form}
use Rattle.pml_program.specs.declared.form.Form.TheVariants.{Plain}
use Rattle.pml_program.specs.declared.expr.Expr.{Expr}
use Rattle.pml_program.specs.declared.expr.Expr.TheVariants as expr
use Rattle.pml_program.specs.declared.expr.Target.{Target, roll-Target}
use Rattle.pml_program.specs.declared.expr.Turn.{Turn, roll-Turn}
use Rattle.pml_program.specs.declared.program.Action.{Action}
use Rattle.pml_program.specs.declared.program.Action.TheVariants as action
use Rattle.pml_program.specs.declared.program.Initial.{Initial}
use Rattle.pml_program.specs.declared.program.Slot.{Slot}
use Rattle.pml_program.specs.declared.program.Fields.{Fields}
use Rattle.pml_program.specs.declared.program.Proctype.{Proctype}
use Rattle.pml_program.specs.declared.program.Run.{Run}
use Rattle.pml_program.specs.declared.program.Stmt.{Stmt}
use Rattle.pml_program.specs.declared.program.Seq.{Seq, roll-Seq}
use Rattle.pml_program.specs.declared.program.Basic.{Basic}
use Rattle.pml_program.specs.declared.program.Basic as basic
use Rattle.worked_runs.specs.Seen.{Seen}
use Rattle.worked_runs.specs.Printed.{Printed, Ending}

-- ---- tokens

-- a token on a line
abbrev pub on : ℕ → Kind → String → Word
on line k text = record { kind = k; text = codes text; line = line }

abbrev pub token_at : List Word → ℕ → Word
token_at ws n = slice_index_or ws n (on 0 kind.End "")

-- from one place up to another
abbrev pub tokens_between : List Word → ℕ → ℕ → List Word
tokens_between ws from to = take (to - from) (drop from ws)

-- ---- types and variables

abbrev pub bit : Form
bit = Plain scalar.Bit

abbrev pub bool : Form
bool = Plain scalar.Bool

abbrev pub byte : Form
byte = Plain scalar.Byte

abbrev pub chan : Form
chan = Plain scalar.Chan

abbrev pub mtype : Form
mtype = Plain scalar.Mtype

abbrev pub pid : Form
pid = Plain scalar.Pid

abbrev pub short : Form
short = Plain scalar.Short

abbrev pub int : Form
int = Plain scalar.Int

-- its name, its type, whether it is an array, its offset, how many elements it has, and how many cells each has
abbrev pub slot : Word → Form → Bool → ℕ → ℕ → ℕ → Initial → Slot
slot name form array offset length stride initial =
    record { name = name; form = form; array = array; offset = offset; length = length; stride = stride; initial = initial }

-- those of the typedef with this number among the units
abbrev pub fields : ℕ → List Slot → Fields
fields owner ss = record { owner = owner; fields = ss }

-- an offset, how many elements, how many cells each has, and the index
abbrev pub turn : ℕ → ℕ → ℕ → Option Expr → Turn
turn offset length stride index = roll-Turn (record { offset = offset; length = length; stride = stride; index = index })

-- a place in a variable, by the variable's number, the type that is reached, and the turns that lead there
abbrev pub in_local : ℕ → Form → List Turn → Target
in_local variable form ts = roll-Target (record { local = true; variable = variable; form = form; turns = ts })

abbrev pub in_global : ℕ → Form → List Turn → Target
in_global variable form ts = roll-Target (record { local = false; variable = variable; form = form; turns = ts })

-- a variable that is no array, of no typedef
abbrev pub local : ℕ → Form → Target
local variable form = in_local variable form (turn 0 1 1 None ∷ [])

abbrev pub global : ℕ → Form → Target
global variable form = in_global variable form (turn 0 1 1 None ∷ [])

-- ---- expressions and statements

abbrev pub number : ℕ → Expr
number n = expr.Number (pos n)

abbrev pub read : Target → Expr
read t = expr.Read t

abbrev pub assign : Target → Expr → Action
assign t e = action.Assign (Some t) e

abbrev pub holds : Expr → Action
holds e = action.Holds e

-- the proctype by its number among them
abbrev pub run : ℕ → List Expr → Run
run proctype arguments = record { proctype = proctype; arguments = arguments }

-- labels, the statement, and its tokens
abbrev pub stmt : List Word → Basic → List Word → Stmt
stmt labels basic tokens = record { labels = labels; basic = basic; tokens = tokens }

abbrev pub seq : List Stmt → Seq
seq ss = roll-Seq (record { steps = ss })

-- statements without labels, behind their tokens
abbrev pub plain : List Word → Action → Stmt
plain tokens a = stmt [] (basic.Plain a) tokens

abbrev pub block : List Word → List Stmt → Stmt
block tokens ss = stmt [] (basic.Block (seq ss)) tokens

abbrev pub atomic : List Word → List Stmt → Stmt
atomic tokens ss = stmt [] (basic.Atomic (seq ss)) tokens

abbrev pub d_step : List Word → List Stmt → Stmt
d_step tokens ss = stmt [] (basic.DStep (seq ss)) tokens

abbrev pub if_fi : List Word → List (List Stmt) → Stmt
if_fi tokens options = stmt [] (basic.If (map seq options)) tokens

abbrev pub do_od : List Word → List (List Stmt) → Stmt
do_od tokens options = stmt [] (basic.Do (map seq options)) tokens

-- the main part, and the escape
abbrev pub unless : List Word → List Stmt → List Stmt → Stmt
unless tokens ss es = stmt [] (basic.Unless (seq ss) (seq es)) tokens

abbrev pub labelled : List Word → Stmt → Stmt
labelled labels s = record s { labels = labels }

-- ---- proctypes

-- a name, the number among the units, how many begin, how many parameters, the variables, the body, and the closing brace
abbrev pub process : Word → ℕ → ℕ → ℕ → List Slot → List Stmt → Word → Proctype
process name owner starts parameters variables ss end =
    record { name = name; owner = owner; starts = starts; parameters = parameters; variables = variables; body = seq ss; end = end }

-- ---- what is played

-- whether steps, globals and locals are shown, and the most steps
abbrev pub options : Bool → Bool → Bool → ℕ → Options
options steps globals locals limit = record { steps = steps; globals = globals; locals = locals; lossy = false; limit = limit }

-- lines one behind another
abbrev pub text : List String → List ℕ
text [] = []
text (l ∷ ls) = codes l ++ text ls

-- output, record, status, and how many bytes are read
abbrev pub whole : List ℕ → List ℕ → ℕ → ℕ → Seen
whole output recorded status read = record { output = output; recorded = recorded; status = status; read = read }

-- what is printed along a path that ends so
abbrev pub shown : List ℕ → Ending → Printed
shown text ending = record { text = text; ending = ending }
