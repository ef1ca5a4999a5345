-- Constant expressions, and what the names of a list of marks stand for: of each name the first declaration.
-- Hold it against docs/REFUSALS.md, M6 to M8 and M14.
use Rattle.std.specs.Prelude.{ℕ, ◌+◌, ◌*◌, ◌-◌, Bool, true, false, if◌then◌else◌, nat_lt, List, [], ◌∷◌, Option, Some, None, ℤ, pos, ◌+ℤ◌, ◌-ℤ◌, ◌*ℤ◌, neg_ℤ, int_rem, nat_eq, min, ◌||◌, ◌&&◌, is_some, codes, fold, unwrap_or}
use Rattle.std.specs.Option.{option_map_or, option_or}
use Rattle.std.specs.Int.{w32, int_wrap, int_wrapping_div, cast_signed}
use Rattle.std.specs.Ordering.{int_eq}
use Rattle.pml_tree.specs.declared.tree.Prefix.TheVariants as prefix
use Rattle.pml_tree.specs.declared.tree.Infix.{Infix}
use Rattle.pml_tree.specs.declared.tree.Infix.TheVariants as op
use Rattle.pml_tree.specs.declared.tree.Expr.{Expr, Expr-F, fold-Expr}
use Rattle.promela_model.specs.declared.mark.Constant.{Constant}
use Rattle.promela_model.specs.declared.mark.Constant.TheVariants.{Is, Faulty, Open}
use Rattle.std.specs.Str.{bytes_eq}
use Rattle.profile.specs.declared.TheConstants.{MOST_CELLS}
use Rattle.profile.specs.Characters.{zero_digit}
use Rattle.pml_program.specs.declared.form.Form.{Form}
use Rattle.pml_program.specs.declared.form.Form.TheVariants as kind
use Rattle.promela_model.specs.declared.thing.Thing.{Thing}
use Rattle.promela_model.specs.declared.thing.Thing.TheVariants as thing
use Rattle.pml_tree.specs.declared.tree.Sort.{Sort}
use Rattle.pml_tree.specs.declared.tree.Sort.TheVariants as sort
use Rattle.promela_model.specs.declared.mark.Role.{Role}
use Rattle.promela_model.specs.declared.mark.Role.TheVariants.{Field, Variable}
use Rattle.promela_model.specs.declared.mark.Declared.{Declared}
use Rattle.promela_model.specs.declared.mark.Declared.TheVariants as declared_as
use Rattle.promela_model.specs.declared.mark.What.{What}
use Rattle.promela_model.specs.declared.mark.What.TheVariants as what
use Rattle.promela_model.specs.declared.mark.Mark.{Mark}

-- the number that digits spell, behind those that give n
abbrev pub spelled : ℕ → List ℕ → ℕ
spelled n [] = n
spelled n (c ∷ cs) = spelled (n * 10 + (c - zero_digit)) cs

-- a number of at most 32 bits
abbrev pub numeral : List ℕ → Option ℕ
numeral cs = if nat_lt (spelled 0 cs) 4294967296 then Some (spelled 0 cs) else None

-- the value of a number's digits: one above 2147483647 is the signed number of the same bits, and one of more than
-- 32 bits is refused by itself
abbrev pub number_from_digits : List ℕ → Constant
number_from_digits cs = option_map_or (λ n. Is (cast_signed w32 n)) (numeral cs) Faulty

-- the value behind a minus sign, of 32 bits
abbrev pub negated : Constant → Constant
negated (Is x) = Is (int_wrap w32 (neg_ℤ x))
negated c = c

-- the operators of constant expressions; `+ - *` wrap
abbrev pub applied : Infix → ℤ → ℤ → Constant
applied op.Plus x y = Is (int_wrap w32 (x +ℤ y))
applied op.Minus x y = Is (int_wrap w32 (x -ℤ y))
applied op.Times x y = Is (int_wrap w32 (x *ℤ y))
applied op.Divide x y = if int_eq y (pos 0) then Faulty else Is (int_wrapping_div w32 x y)
applied op.Remainder x y = if int_eq y (pos 0) then Faulty else Is (int_rem x y)
applied _ x y = Faulty

-- the value of two operands: what is open in either stays open, and else a fault in either is a fault
abbrev pub joined_constants : Infix → Constant → Constant → Constant
joined_constants o Open b = Open
joined_constants o a Open = Open
joined_constants o (Is x) (Is y) = applied o x y
joined_constants o a b = Faulty

-- whether constant expressions have this operator
abbrev pub is_constant : Infix → Bool
is_constant op.Plus = true
is_constant op.Minus = true
is_constant op.Times = true
is_constant op.Divide = true
is_constant op.Remainder = true
is_constant _ = false

-- the value of an expression by those of its parts: `true` and `skip` are 1, and `false` is 0; of the operators before a part a minus sign alone keeps it known
abbrev pub constant_layer : Expr-F (Unit {0}) Constant (Unit {0}) (Unit {0}) → Constant
constant_layer (Expr-F.Number n) = number_from_digits n.text
constant_layer (Expr-F.Truth b) = Is (pos (if b then 1 else 0))
constant_layer (Expr-F.Unary prefix.Minus a) = negated a
constant_layer (Expr-F.Binary o a b) = if is_constant o then joined_constants o a b else Open
constant_layer _ = Open

-- what an expression gives as a constant expression
abbrev pub constant : Expr → Constant
constant = fold-Expr (Unit {0}) Constant (Unit {0}) (Unit {0}) (λ _. tt) constant_layer (λ _. tt) (λ _. tt)

-- a count: one that is negative or no constant is refused by itself
abbrev pub count_of : Constant → ℕ
count_of (Is (pos n)) = n
count_of _ = 0

-- how many elements: a size that is out of range is refused by itself
abbrev pub length_of : Option Constant → ℕ
length_of (Some (Is (pos n))) = if nat_lt 0 n && nat_lt n (MOST_CELLS + 1) then n else 1
length_of _ = 1

-- cells are counted up to one more than there may be
abbrev pub cells_counted : ℕ → ℕ
cells_counted n = min n (MOST_CELLS + 1)

-- ---- names

-- what the names of each owner stand for
abbrev pub Naming : Type 0
Naming = ℕ → List ℕ → Option Thing

-- the name `_`
unfoldable pub is_any : List ℕ → Bool
is_any n = bytes_eq n (codes "_")

-- the name `_pid`
unfoldable pub is_pid : List ℕ → Bool
is_pid n = bytes_eq n (codes "_pid")

-- the name `_nr_pr`
unfoldable pub is_count : List ℕ → Bool
is_count n = bytes_eq n (codes "_nr_pr")

-- the names that no text declares
abbrev pub is_special : List ℕ → Bool
is_special n = is_any n || (is_pid n || is_count n)

-- a proctype, and nothing else
abbrev pub only_process : Option Thing → Option Thing
only_process (Some (thing.Proctype o n)) = Some (thing.Proctype o n)
only_process _ = None

-- what a name stands for where o uses it: a name of its own hides a global one
abbrev pub visible : Naming → ℕ → List ℕ → Option Thing
visible names o n = option_or (names o n) (names 0 n)

-- The same where a proctype may be meant too, which any place of the whole text may declare.
abbrev pub meaning : Naming → Naming → ℕ → List ℕ → Option Thing
meaning all names o n = option_or (names o n) (option_or (names 0 n) (only_process (all 0 n)))

-- what stands for a field of this type: nothing where it is no typedef's, None where the typedef lacks it
abbrev pub field_of_type : Naming → Form → List ℕ → Option (Option Thing)
field_of_type names (kind.Struct t) n = Some (names t n)
field_of_type names _ n = None

-- ---- the type of a variable

-- the type that a name of a typedef stands for
abbrev pub form_of : Option Thing → Form
form_of (Some (thing.Typedef t n)) = kind.Struct t
form_of _ = kind.Unknown

-- how many cells a value of a typedef has
abbrev pub stride_of : Option Thing → ℕ
stride_of (Some (thing.Typedef t n)) = n
stride_of _ = 1

-- the type of a variable that is declared where o's names are used; a width that is too large is refused by itself
abbrev pub form : Naming → ℕ → Sort → Form
form names o (sort.Plain t) = kind.Plain t
form names o (sort.Unsigned n) = kind.Unsigned (unwrap_or (numeral n.text) 0)
form names o (sort.Named t) = form_of (visible names o t.text)

-- how many cells a value of a sort has
abbrev pub stride : Naming → ℕ → Sort → ℕ
stride names o (sort.Named t) = stride_of (visible names o t.text)
stride names o _ = 1

-- whose names the declaration of one of o's variables uses: a typedef's field only global ones
abbrev pub user : Role → ℕ → ℕ
user Field o = 0
user Variable o = o

-- ---- what a declaration makes of its name

-- what is declared before a place: names, the cells and the number of each owner's variables, and the number of mtype names
pub record Before : Type 0 where
  pub names : Naming
  pub cells : ℕ → ℕ
  pub variables : ℕ → ℕ
  pub constants : ℕ

-- what a name stands for by its declaration
abbrev pub thing_of : Before → ℕ → Declared → Thing
thing_of b o (declared_as.Variable x s size makes) =
    thing.Variable (record {
      form = form b.names (user x o) s;
      array = is_some size;
      length = length_of size;
      stride = stride b.names (user x o) s;
      offset = cells_counted (b.cells o);
      number = b.variables o;
    })
thing_of b o declared_as.Constant = thing.Constant (b.constants + 1)
thing_of b o (declared_as.Typedef t) = thing.Typedef t (cells_counted (b.cells t))
thing_of b o (declared_as.Proctype p n) = thing.Proctype p n

-- how many cells a variable has
abbrev pub cells_in : Thing → ℕ
cells_in (thing.Variable v) = v.length * v.stride
cells_in _ = 0

-- 1 for a variable
abbrev pub variables_in : Thing → ℕ
variables_in (thing.Variable v) = 1
variables_in _ = 0

-- 1 for a name of an `mtype`
abbrev pub constants_in : Thing → ℕ
constants_in (thing.Constant n) = 1
constants_in _ = 0

-- one name more, of this owner
abbrev pub with_thing : Before → ℕ → List ℕ → Thing → Before
with_thing b o n t = record {
  names = λ p m. if nat_eq p o && bytes_eq m n then Some t else b.names p m;
  cells = λ p. b.cells p + (if nat_eq o p then cells_in t else 0);
  variables = λ p. b.variables p + (if nat_eq o p then variables_in t else 0);
  constants = b.constants + constants_in t;
}

-- one mark more, of this owner: of two declarations of one name the first counts
abbrev pub with_mark : Before → ℕ → What → Before
with_mark b o (what.Declares w d) = if is_some (b.names o w.text) then b else with_thing b o w.text (thing_of b o d)
with_mark b o _ = b

-- what is declared by these marks
abbrev pub before : List Mark → Before
before ms =
    let nothing : Before = record { names = λ o n. None; cells = λ o. 0; variables = λ o. 0; constants = 0 } in
    fold (λ b m. with_mark b m.owner m.what) nothing ms
