-- Expressions with each name replaced by what it stands for.
use Rattle.std.specs.Prelude.{map, ℕ, nat_lt, Bool, true, false, ◌&&◌, is_some, if◌then◌else◌, List, [], ◌∷◌, Option, Some, None, ℤ, pos}
use Rattle.profile.specs.declared.TheConstants.{MOST_CONSTANTS}
use Rattle.pml_tree.specs.declared.tree.Expr.{Expr as TreeExpr, Expr-F, fold-Expr}
use Rattle.pml_tree.specs.declared.tree.Sign.{Sign}
use Rattle.pml_tree.specs.declared.tree.Sign.TheVariants.{Plus, Minus}
use Rattle.pml_tree.specs.declared.tree.Argument.{Argument, Argument-F, fold-Argument}
use Rattle.pml_tree.specs.declared.tree.Reference.{Reference, Reference-F, fold-Reference, out-Reference}
use Rattle.pml_tree.specs.declared.tree.Step.{Step, Step-F, fold-Step}
use Rattle.promela_model.specs.declared.mark.Constant.{Constant}
use Rattle.promela_model.specs.declared.mark.Constant.TheVariants.{Is}
use Rattle.pml_program.specs.declared.form.Form.{Form}
use Rattle.pml_program.specs.declared.form.Form.TheVariants as kind
use Rattle.promela_model.specs.declared.thing.Variable.{Variable}
use Rattle.promela_model.specs.declared.thing.Thing.{Thing}
use Rattle.promela_model.specs.declared.thing.Thing.TheVariants as thing
use Rattle.check_names.specs.Entry.{Entry, found}
use Rattle.promela_model.specs.Names.{is_any, is_pid, is_count, field_of_type, meaning, number_from_digits, negated}
use Rattle.pml_program.specs.declared.expr.Expr.{Expr}
use Rattle.pml_program.specs.declared.expr.Expr.TheVariants as v
use Rattle.pml_program.specs.declared.expr.Want.{Want}
use Rattle.pml_program.specs.declared.expr.Want.TheVariants as w
use Rattle.pml_program.specs.declared.expr.Target.{Target, roll-Target}
use Rattle.pml_program.specs.declared.expr.Turn.{Turn, roll-Turn}
use Rattle.check_resolve.specs.declared.scope.Scope as code
use Rattle.check_resolve.specs.declared.scope.Whose.{Whose}
use Rattle.check_resolve.specs.declared.reached.Reached.{Reached}
use Rattle.check_resolve.specs.declared.reached.Reached.TheVariants as r

-- the names of the whole text, those that are declared so far, and whose place it is
pub record Scope : Type 0 where
  pub all : List Entry
  pub names : List Entry
  pub owner : ℕ

abbrev pub scope : List Entry → List Entry → ℕ → Scope
scope all names o = record { all = all; names = names; owner = o }

-- where the code looks a name up
abbrev pub scope_of : code.Scope → Scope
scope_of s = scope s.all.now s.table.now s.owner

-- what is asked of the names of the whole text and of an owner, for this one
abbrev pub owned : {A : Type 0} → Whose → (List Entry → ℕ → A) → A
owned w ask = ask w.all.now w.owner

abbrev pub Valued : Type 0
Valued = Scope → Expr

-- a name and its index
pub record Stepped : Type 0 where
  pub name : List ℕ
  pub index : Scope → Option Expr

-- ---- references

abbrev pub target_of : Bool → ℕ → Form → List Turn → Target
target_of local n f ts = roll-Target (record { local = local; variable = n; form = f; turns = ts })

abbrev pub turn_of : ℕ → Variable → Option Expr → Turn
turn_of offset x i = roll-Turn (record { offset = offset; length = x.length; stride = x.stride; index = i })

-- a type, and the turns that lead to it
abbrev pub Path : Type 0
Path = Form × List Turn

abbrev pub with_turn : Turn → Path → Path
with_turn t p = (p.0, t ∷ p.1)

abbrev pub into : Option (Option Thing) → Option Expr → Form → (Form → Path) → Path
into (Some (Some (thing.Variable x))) i f rest = with_turn (turn_of x.offset x i) (rest x.form)
into _ i f rest = (f, [])

-- through the fields behind a place of this type
abbrev pub through : Form → List Stepped → Scope → Path
through f [] sc = (f, [])
through f (s ∷ ss) sc = into (field_of_type (found sc.names) f s.name) (s.index sc) f (λ g. through g ss sc)

abbrev pub placed : Bool → Variable → Stepped → List Stepped → Scope → Reached
placed local x s ss sc =
    let p = through x.form ss sc in r.Place (target_of local x.number p.0 (turn_of 0 x (s.index sc) ∷ p.1))

abbrev pub stands_for : Bool → Option Thing → Stepped → List Stepped → Scope → Reached
stands_for local (Some (thing.Variable x)) s ss sc = placed local x s ss sc
stands_for local (Some (thing.Constant n)) s ss sc = r.Constant n
stands_for local _ s ss sc = r.Nothing

-- a name of the owner is a local one, where the owner is a proctype
abbrev pub is_local : List Entry → ℕ → List ℕ → Bool
is_local names o n = nat_lt 0 o && is_some (found names o n)

abbrev pub reached : Stepped → List Stepped → Scope → Reached
reached s ss sc =
    if is_any s.name then r.Anything
    else (if is_pid s.name then r.Pid
    else (if is_count s.name then r.ProcessCount
    else stands_for (is_local sc.names sc.owner s.name) (meaning (found sc.all) (found sc.names) sc.owner s.name) s ss sc))

abbrev pub Reaching : Type 0
Reaching = Scope → Reached

-- ---- what stands where a value, a place or an argument is wanted

abbrev pub literal : Constant → ℤ
literal (Is x) = x
literal _ = pos 0

abbrev pub no_target : Target
no_target = target_of false 0 kind.Unknown []

-- the number of an mtype name: there are at most 255
abbrev pub mtype : ℕ → ℤ
mtype n = if nat_lt MOST_CONSTANTS n then pos 0 else pos n

abbrev pub read : Reached → Expr
read (r.Place t) = v.Read t
read (r.Constant n) = v.Number (mtype n)
read r.Pid = v.Pid
read r.ProcessCount = v.ProcessCount
read _ = v.Number (pos 0)

abbrev pub target : Reached → Target
target (r.Place t) = t
target _ = no_target

abbrev pub received : Reached → Want
received (r.Place t) = w.Into t
received (r.Constant n) = w.Exactly (mtype n)
received _ = w.Anything

-- ---- expressions

abbrev pub truth : Bool → ℤ
truth true = pos 1
truth false = pos 0

abbrev pub signed : Sign → Constant → Constant
signed Plus c = c
signed Minus c = negated c

abbrev pub Wanted : Type 0
Wanted = Scope → Want

abbrev pub at_scope : List Wanted → Scope → List Want
at_scope [] sc = []
at_scope (a ∷ more) sc = a sc ∷ at_scope more sc

abbrev pub expr_layer : Expr-F Wanted Valued Reaching Stepped → Valued
expr_layer (Expr-F.Number n) sc = v.Number (literal (number_from_digits n.text))
expr_layer (Expr-F.Truth b) sc = v.Number (truth b)
expr_layer Expr-F.Timeout sc = v.Timeout
expr_layer (Expr-F.Read p) sc = read (p sc)
expr_layer (Expr-F.Ask f p) sc = v.Ask f (target (p sc))
expr_layer (Expr-F.Poll p search args) sc = v.Poll (target (p sc)) search (at_scope args sc)
expr_layer (Expr-F.Unary op a) sc = v.Unary op (a sc)
expr_layer (Expr-F.Binary op a b) sc = v.Binary op (a sc) (b sc)
expr_layer (Expr-F.Choice a b c) sc = v.Choice (a sc) (b sc) (c sc)

abbrev pub argument_layer : Argument-F Wanted Valued Reaching Stepped → Wanted
argument_layer (Argument-F.Exactly sign n) sc = w.Exactly (literal (signed sign (number_from_digits n.text)))
argument_layer (Argument-F.Fixed b) sc = w.Exactly (truth b)
argument_layer (Argument-F.Eval a) sc = w.Equal (a sc)
argument_layer (Argument-F.Into p) sc = received (p sc)

abbrev pub reference_layer : Reference-F Wanted Valued Reaching Stepped → Reaching
reference_layer p sc = reached p.first p.fields sc

abbrev pub index_at : Option Valued → Scope → Option Expr
index_at None sc = None
index_at (Some a) sc = Some (a sc)

abbrev pub step_layer : Step-F Wanted Valued Reaching Stepped → Stepped
step_layer s = record { name = s.name.text; index = index_at s.index }

abbrev pub numbered : TreeExpr → Valued
numbered = fold-Expr Wanted Valued Reaching Stepped argument_layer expr_layer reference_layer step_layer

abbrev pub numbered_argument : Argument → Wanted
numbered_argument = fold-Argument Wanted Valued Reaching Stepped argument_layer expr_layer reference_layer step_layer

abbrev pub numbered_reference : Reference → Reaching
numbered_reference = fold-Reference Wanted Valued Reaching Stepped argument_layer expr_layer reference_layer step_layer

abbrev pub numbered_step : Step → Stepped
numbered_step = fold-Step Wanted Valued Reaching Stepped argument_layer expr_layer reference_layer step_layer

-- a reference to a variable, or to a part of it
abbrev pub placed_by : Bool → Variable → Reference → Reaching
placed_by local x r = placed local x (numbered_step (out-Reference r).first) (map numbered_step (out-Reference r).fields)
