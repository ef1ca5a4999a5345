-- What is declared globally before a place, and what an expression stands for, by cases on its tree. `gs` is what is declared
-- globally before it, and `ls` are the variables of its proctype that are declared before it.
-- Hold it against docs/LANGUAGE.md, 'A model', 'Types' and 'Expressions'.
use Rattle.std.specs.Prelude.{ℕ, ◌+◌, ◌*◌, Bool, true, false, if◌then◌else◌, nat_lt, List, [], ◌∷◌, Option, Some, None, ℤ, pos, suc, nat_eq, ◌||◌, is_some, ◌++◌, map, find, option_map, ◌≡◌, codes}
use Rattle.std.specs.Option.{option_map_or}
use Rattle.std.specs.List.{list_any}
use Rattle.pml_tree.specs.declared.tree.Infix.{Infix}
use Rattle.pml_tree.specs.declared.tree.Expr.{Expr as TreeExpr}
use Rattle.promela_model.specs.declared.mark.Constant.{Constant}
use Rattle.promela_model.specs.declared.mark.Constant.TheVariants.{Is}
use Rattle.std.specs.Str.{bytes_eq}
use Rattle.profile.specs.declared.TheConstants.{MOST_CONSTANTS}
use Rattle.pml_token.specs.Word.{Word}
use Rattle.pml_tree.specs.declared.tree.Unit.{Unit as Part}
use Rattle.pml_tree.specs.declared.tree.Unit.TheVariants as part
use Rattle.pml_program.specs.declared.form.Form.{Form}
use Rattle.pml_program.specs.declared.form.Form.TheVariants as kind
use Rattle.pml_program.specs.declared.program.Slot.{Slot}
use Rattle.pml_tree.specs.declared.tree.Sign.{Sign}
use Rattle.pml_tree.specs.declared.tree.Sign.TheVariants.{Plus, Minus}
use Rattle.pml_tree.specs.declared.tree.Fill.{Fill}
use Rattle.pml_tree.specs.declared.tree.Prefix.{Prefix}
use Rattle.pml_tree.specs.declared.tree.Search.{Search}
use Rattle.pml_tree.specs.declared.tree.Expr.TheVariants as e
use Rattle.pml_tree.specs.declared.tree.Argument.{Argument}
use Rattle.pml_tree.specs.declared.tree.Argument.TheVariants as g
use Rattle.pml_tree.specs.declared.tree.Reference.{Reference}
use Rattle.pml_tree.specs.declared.tree.Step.{Step}
use Rattle.promela_grammar.specs.Expressions.{named_step, reference_of}
use Rattle.pml_program.specs.declared.expr.Expr.{Expr}
use Rattle.pml_program.specs.declared.expr.Expr.TheVariants as v
use Rattle.pml_program.specs.declared.expr.Want.{Want}
use Rattle.pml_program.specs.declared.expr.Want.TheVariants as w
use Rattle.pml_program.specs.declared.expr.Target.{Target, roll-Target}
use Rattle.pml_program.specs.declared.expr.Turn.{Turn, roll-Turn}
use Rattle.promela_model.specs.Names.{number_from_digits as number_of, negated}
use Rattle.promela_model.specs.Marks.{is_proctype}

-- ---- what is declared before a place

-- a typedef: its name, the number of its unit, and its fields
pub record Structure : Type 0 where
  pub name : Word
  pub number : ℕ
  pub fields : List Slot

-- The units of the whole text, and what is declared globally before a place, each in the order of the text.
pub record Globals : Type 0 where
  pub text : List Part
  pub variables : List Slot
  pub constants : List Word
  pub typedefs : List Structure
  pub proctypes : List Word

-- a token has this name
abbrev pub is_called : List ℕ → Word → Bool
is_called n w = bytes_eq n w.text

-- ---- the first of a name

-- the first variable of this name, and how many stand before it
abbrev pub variable_named : List Slot → List ℕ → Option (ℕ × Slot)
variable_named [] n = None
variable_named (s ∷ ss) n =
    if is_called n s.name then Some (0, s) else option_map (λ p. (suc p.0, p.1)) (variable_named ss n)

-- the number of the mtype name that is called so, from 1
abbrev pub constant_named : List Word → List ℕ → Option ℕ
constant_named [] n = None
constant_named (w ∷ ws) n = if is_called n w then Some 1 else option_map suc (constant_named ws n)

-- the first typedef of a name
abbrev pub typedef_named : List Structure → List ℕ → Option Structure
typedef_named xs n = find (λ x. is_called n x.name) xs

-- one of these tokens has the name
abbrev pub has_name : List Word → List ℕ → Bool
has_name ws n = list_any (is_called n) ws

-- the fields of a place of this type: those of the typedef with its number, and none where it is no typedef's
abbrev pub fields_in : Globals → Form → List Slot
fields_in gs (kind.Struct t) = option_map_or (λ x. x.fields) (find (λ x. nat_eq t x.number) gs.typedefs) []
fields_in gs _ = []

-- ---- the proctype of a name, in the whole text

-- whether a unit declares this global name
abbrev pub declares : Part → List ℕ → Bool
declares (part.Variables vs) n = has_name (map (λ v. v.name) vs) n
declares (part.Constants ws) n = has_name ws n
declares (part.Typedef t vs) n = is_called n t
declares (part.Proctype p) n = is_called n p.name

-- the number of the proctype that is called so, where the next one has the number k: none where another unit declares the name before it
abbrev pub proctype_named : ℕ → List Part → List ℕ → Option ℕ
proctype_named k [] n = None
proctype_named k (u ∷ us) n =
    if declares u n then (if is_proctype u then Some k else None) else proctype_named (if is_proctype u then k + 1 else k) us n

-- ---- one declaration more: of two declarations of one name the first counts

-- whether the name is declared globally before
abbrev pub is_declared : Globals → List ℕ → Bool
is_declared gs n =
    (is_some (variable_named gs.variables n) || is_some (constant_named gs.constants n))
    || (is_some (typedef_named gs.typedefs n) || has_name gs.proctypes n)

-- one more name of an `mtype`, where nothing has the name yet
abbrev pub with_constant : Globals → Word → Globals
with_constant gs w = if is_declared gs w.text then gs else record gs { constants = gs.constants ++ w ∷ [] }

-- one more typedef, where nothing has its name yet
abbrev pub with_typedef : Globals → Structure → Globals
with_typedef gs x = if is_declared gs x.name.text then gs else record gs { typedefs = gs.typedefs ++ x ∷ [] }

-- one more proctype, where nothing has its name yet
abbrev pub with_proctype : Globals → Word → Globals
with_proctype gs w = if is_declared gs w.text then gs else record gs { proctypes = gs.proctypes ++ w ∷ [] }

-- ---- cells

-- how many cells variables have
abbrev pub cells_in_all : List Slot → ℕ
cells_in_all [] = 0
cells_in_all (s ∷ ss) = s.length * s.stride + cells_in_all ss

-- ---- the trees, by their parts

-- a turn to a variable or a field, from a cell of what it is a part of
abbrev pub turn_to : ℕ → Slot → Option Expr → Turn
turn_to offset s i = roll-Turn (record { offset = offset; length = s.length; stride = s.stride; index = i })

-- a variable, by whose it is and by its number, with the turns that lead into it
abbrev pub target_at : Bool → ℕ → Form → List Turn → Target
target_at local n f ts = roll-Target (record { local = local; variable = n; form = f; turns = ts })

-- ---- numbers: what is out of range is refused by itself

-- the value of a constant; 0, where it is not known
abbrev pub value_of : Constant → ℤ
value_of (Is x) = x
value_of _ = pos 0

-- a constant behind its sign
abbrev pub with_sign : Sign → Constant → Constant
with_sign Plus c = c
with_sign Minus c = negated c

-- the value of a name of an `mtype`, by its number
abbrev pub mtype_value : ℕ → ℤ
mtype_value n = if nat_lt MOST_CONSTANTS n then pos 0 else pos n

-- ---- what a reference means

-- a place, an mtype name by its number, `_pid`, `_nr_pr`, `_`, or nothing: then the model is refused
pub data Meaning : Type 0 where
  Place : Target → Meaning
  Mtype : ℕ → Meaning
  Pid Count Anything Nothing : Meaning

-- the names that no text declares
abbrev pub special : List ℕ → Option Meaning
special n =
    if bytes_eq n (codes "_") then Some Anything
    else (if bytes_eq n (codes "_pid") then Some Pid else (if bytes_eq n (codes "_nr_pr") then Some Count else None))

-- where a value is wanted
abbrev pub as_value : Meaning → Expr
as_value (Place t) = v.Read t
as_value (Mtype n) = v.Number (mtype_value n)
as_value Pid = v.Pid
as_value Count = v.ProcessCount
as_value _ = v.Number (pos 0)

-- where a place is wanted
abbrev pub as_place : Meaning → Target
as_place (Place t) = t
as_place _ = target_at false 0 kind.Unknown []

-- where a receive or a poll wants something: an mtype name is compared, and a place stored to
abbrev pub as_wanted : Meaning → Want
as_wanted (Place t) = w.Into t
as_wanted (Mtype n) = w.Exactly (mtype_value n)
as_wanted _ = w.Anything

mutual
  pub data StandsIndex (gs : Globals) (ls : List Slot) : Option TreeExpr → Option Expr → Type 0 where
    no_index : StandsIndex gs ls None None
    index : {a : TreeExpr} {x : Expr} → StandsExpr gs ls a x → StandsIndex gs ls (Some a) (Some x)

  -- a name, and what its index stands for
  pub data StandsStep (gs : Globals) (ls : List Slot) : Step → List ℕ → Option Expr → Type 0 where
    step : {n : Word} {i : Option TreeExpr} {x : Option Expr} → StandsIndex gs ls i x → StandsStep gs ls (named_step n i) n.text x

  -- the fields behind a place of one type: the type that is reached, and the turns that lead there
  pub data StandsFields (gs : Globals) (ls : List Slot) : Form → List Step → Form → List Turn → Type 0 where
    no_field : {f : Form} → StandsFields gs ls f [] f []
    field : {f h : Form} {s : Step} {ss : List Step} {n : List ℕ} {x : Option Expr} {k : ℕ} {t : Slot} {ts : List Turn}
        → StandsStep gs ls s n x → variable_named (fields_in gs f) n ≡ Some (k, t) → StandsFields gs ls t.form ss h ts
        → StandsFields gs ls f (s ∷ ss) h (turn_to t.offset t x ∷ ts)
    lost_field : {f : Form} {s : Step} {ss : List Step} {n : List ℕ} {x : Option Expr}
        → StandsStep gs ls s n x → variable_named (fields_in gs f) n ≡ None → StandsFields gs ls f (s ∷ ss) f []

  -- a name that no text declares; else a variable of the proctype; else a global variable or an mtype name
  pub data StandsReference (gs : Globals) (ls : List Slot) : Reference → Meaning → Type 0 where
    special_name : (ss : List Step) {s : Step} {n : List ℕ} {x : Option Expr} {m : Meaning}
        → StandsStep gs ls s n x → special n ≡ Some m → StandsReference gs ls (reference_of s ss) m
    local_variable : {s : Step} {ss : List Step} {n : List ℕ} {x : Option Expr} {k : ℕ} {t : Slot} {f : Form} {ts : List Turn}
        → StandsStep gs ls s n x → special n ≡ None → variable_named ls n ≡ Some (k, t) → StandsFields gs ls t.form ss f ts
        → StandsReference gs ls (reference_of s ss) (Place (target_at true k f (turn_to 0 t x ∷ ts)))
    global_variable : {s : Step} {ss : List Step} {n : List ℕ} {x : Option Expr} {k : ℕ} {t : Slot} {f : Form} {ts : List Turn}
        → StandsStep gs ls s n x → special n ≡ None → variable_named ls n ≡ None → variable_named gs.variables n ≡ Some (k, t)
        → StandsFields gs ls t.form ss f ts → StandsReference gs ls (reference_of s ss) (Place (target_at false k f (turn_to 0 t x ∷ ts)))
    mtype_name : (ss : List Step) {s : Step} {n : List ℕ} {x : Option Expr} {k : ℕ}
        → StandsStep gs ls s n x → special n ≡ None → variable_named ls n ≡ None → constant_named gs.constants n ≡ Some k
        → StandsReference gs ls (reference_of s ss) (Mtype k)
    no_name : (ss : List Step) {s : Step} {n : List ℕ} {x : Option Expr}
        → StandsStep gs ls s n x → special n ≡ None → variable_named ls n ≡ None → variable_named gs.variables n ≡ None
        → constant_named gs.constants n ≡ None → StandsReference gs ls (reference_of s ss) Nothing

  pub data StandsExpr (gs : Globals) (ls : List Slot) : TreeExpr → Expr → Type 0 where
    number : (n : Word) → StandsExpr gs ls (e.Number n) (v.Number (value_of (number_of n.text)))
    truth : (c : Bool) → StandsExpr gs ls (e.Truth c) (v.Number (pos (if c then 1 else 0)))
    timeout : StandsExpr gs ls e.Timeout v.Timeout
    read : {r : Reference} {m : Meaning} → StandsReference gs ls r m → StandsExpr gs ls (e.Read r) (as_value m)
    ask : (f : Fill) {r : Reference} {m : Meaning} → StandsReference gs ls r m → StandsExpr gs ls (e.Ask f r) (v.Ask f (as_place m))
    poll : (look : Search) {r : Reference} {m : Meaning} {qs : List Argument} {ws : List Want}
        → StandsReference gs ls r m → StandsArguments gs ls qs ws → StandsExpr gs ls (e.Poll r look qs) (v.Poll (as_place m) look ws)
    unary : (o : Prefix) {a : TreeExpr} {x : Expr} → StandsExpr gs ls a x → StandsExpr gs ls (e.Unary o a) (v.Unary o x)
    binary : (o : Infix) {a b : TreeExpr} {x y : Expr}
        → StandsExpr gs ls a x → StandsExpr gs ls b y → StandsExpr gs ls (e.Binary o a b) (v.Binary o x y)
    choice : {a b c : TreeExpr} {x y z : Expr}
        → StandsExpr gs ls a x → StandsExpr gs ls b y → StandsExpr gs ls c z → StandsExpr gs ls (e.Choice a b c) (v.Choice x y z)

  -- an argument of a receive or a poll
  pub data StandsArgument (gs : Globals) (ls : List Slot) : Argument → Want → Type 0 where
    exactly : (i : Sign) (n : Word) → StandsArgument gs ls (g.Exactly i n) (w.Exactly (value_of (with_sign i (number_of n.text))))
    fixed : (c : Bool) → StandsArgument gs ls (g.Fixed c) (w.Exactly (pos (if c then 1 else 0)))
    equal : {a : TreeExpr} {x : Expr} → StandsExpr gs ls a x → StandsArgument gs ls (g.Eval a) (w.Equal x)
    into : {r : Reference} {m : Meaning} → StandsReference gs ls r m → StandsArgument gs ls (g.Into r) (as_wanted m)

  pub data StandsArguments (gs : Globals) (ls : List Slot) : List Argument → List Want → Type 0 where
    no_argument : StandsArguments gs ls [] []
    argument : {q : Argument} {qs : List Argument} {x : Want} {xs : List Want}
        → StandsArgument gs ls q x → StandsArguments gs ls qs xs → StandsArguments gs ls (q ∷ qs) (x ∷ xs)
