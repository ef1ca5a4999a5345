-- The grammar of statements with a structure, of bodies, of what `for` and `select` stand for, of units, and of a whole model.
-- Hold it against the pages `grammar`, `if`, `do`, `atomic`, `d_step`, `unless`, `for`, `select`, `proctype`, `active`, `init`, `typedef` and `mtype`.
use Rattle.std.specs.Prelude.{◌≡◌, ℕ, Bool, true, false, ◌||◌, List, [], ◌∷◌, ◌++◌, None}
use lib.Chars.{codes}
use Rattle.pml_token.specs.Word.{Word}
use Rattle.pml_token.specs.declared.token.Kind.{Kind}
use Rattle.pml_token.specs.declared.token.Kind.TheVariants as k
use Rattle.pml_tree.specs.declared.tree.Infix.{Infix}
use Rattle.pml_tree.specs.declared.tree.Infix.TheVariants as op
use Rattle.pml_tree.specs.declared.tree.Expr.{Expr}
use Rattle.pml_tree.specs.declared.tree.Expr.TheVariants as e
use Rattle.pml_tree.specs.declared.tree.Reference.{Reference}
use Rattle.pml_tree.specs.declared.tree.Variable.{Variable}
use Rattle.pml_tree.specs.declared.tree.Action.{Action}
use Rattle.pml_tree.specs.declared.tree.Action.TheVariants as a
use Rattle.pml_tree.specs.declared.tree.Basic.{Basic}
use Rattle.pml_tree.specs.declared.tree.Basic.TheVariants as b
use Rattle.pml_tree.specs.declared.tree.Item.{Item}
use Rattle.pml_tree.specs.declared.tree.Seq.{Seq}
use Rattle.promela_grammar.specs.declared.range.Bound.{Bound}
use Rattle.promela_grammar.specs.declared.range.Range.{Range}
use Rattle.promela_grammar.specs.Expressions.{between, SpellsReference, SpellsExpr, SpellsList}
use Rattle.promela_grammar.specs.Actions.{is_exclusive, is_separator, item_of, seq_of, counter_of, bound_of, range_of, SpellsAction, SpellsDeclaration, variable_of, proctype_tree, tree_of, SpellsName, SpellsVisibility, SpellsOpener}
use Rattle.pml_tree.specs.declared.tree.Scalar.{Scalar}
use Rattle.pml_tree.specs.declared.tree.Sort.TheVariants as sort
use Rattle.pml_tree.specs.declared.tree.Starts.{Starts}
use Rattle.pml_tree.specs.declared.tree.Starts.TheVariants as starts
use Rattle.pml_tree.specs.declared.tree.Unit.{Unit as ModelUnit}
use Rattle.pml_tree.specs.declared.tree.Unit.TheVariants as u
use Rattle.pml_tree.specs.declared.tree.Tree.{Tree}
use Rattle.promela_grammar.specs.declared.opener.Opener.{Opener}
use Rattle.promela_grammar.specs.declared.opener.Opener.TheVariants as opener

-- ---- what `for` and `select` stand for

-- the word, which is of this kind, and what stands in the parentheses behind it
pub data SpellsRange (kind : Kind) : Range → List Word → List Word → Type 0 where
  range : {w o c d z : Word} {i : Reference} {x y : Expr} {from first last to : List Word} → w.kind ≡ kind → o.kind ≡ k.OpenParen
      → SpellsReference i from (c ∷ first) → c.kind ≡ k.Colon
      → SpellsExpr 1 x first (d ∷ last) → d.kind ≡ k.DotDot → SpellsExpr 1 y last (z ∷ to) → z.kind ≡ k.CloseParen
      → SpellsRange kind (range_of (counter_of w.line i (between from (c ∷ first))) (bound_of x (between first (d ∷ last))) (bound_of y (between last (z ∷ to)))) (w ∷ o ∷ from) to

-- A token that the text has not is on the line of the word.
abbrev pub made_word : Kind → List ℕ → ℕ → Word
made_word kind text line = record { kind = kind; text = text; line = line }

-- `i = a`
abbrev pub setting : ℕ → Reference → List Word → Bound → Item
setting line i named x = item_of [] (b.Plain (a.Assign i x.value)) (named ++ made_word k.Assign (codes "=") line ∷ x.tokens)

-- `i <= b` or `i < b`, where b is the whole right side
abbrev pub comparing : Infix → Word → Reference → List Word → Bound → Item
comparing o word i named y = item_of [] (b.Plain (a.Holds (e.Binary o (e.Read i) y.value))) (named ++ word ∷ y.tokens)

-- `i++`
abbrev pub raising : ℕ → Reference → List Word → Item
raising line i named = item_of [] (b.Plain (a.Increment i)) (named ++ made_word k.Increment (codes "++") line ∷ [])

-- `else`
abbrev pub otherwise_item : ℕ → Item
otherwise_item line = item_of [] (b.Plain a.Else) (made_word k.Else (codes "else") line ∷ [])

-- `break`
abbrev pub breaking : ℕ → Item
breaking line = item_of [] b.Break (made_word k.Break (codes "break") line ∷ [])

-- `do OPTIONS od`
abbrev pub turning : ℕ → List Seq → Item
turning line options = item_of [] (b.Do options) (made_word k.Do (codes "do") line ∷ [])

-- `i <= b`
abbrev pub at_most : ℕ → Reference → List Word → Bound → Item
at_most line compared named y = comparing op.AtMost (made_word k.AtMost (codes "<=") line) compared named y

-- `:: i <= b -> S; i++` and `:: else -> break`
abbrev pub for_on : ℕ → Reference → Reference → List Word → Bound → List Item → Seq
for_on line compared raised named y s = seq_of (at_most line compared named y ∷ s ++ raising line raised named ∷ [])

-- `:: else -> break`
abbrev pub for_out : ℕ → Seq
for_out line = seq_of (otherwise_item line ∷ breaking line ∷ [])

-- `:: i < b -> i++` and `:: break`
abbrev pub select_on : ℕ → Reference → Reference → List Word → Bound → Seq
select_on line compared raised named y = seq_of (comparing op.Below (made_word k.Less (codes "<") line) compared named y ∷ raising line raised named ∷ [])

-- `:: break`
abbrev pub select_out : ℕ → Seq
select_out line = seq_of (breaking line ∷ [])

-- `{ i = a; do :: i <= b -> S; i++ :: else -> break od }`
abbrev pub for_of : Range → List Item → Basic
for_of r s =
    let i = r.counter in
    b.Block (seq_of (setting i.line i.set i.tokens r.first ∷ turning i.line (for_on i.line i.compared i.raised i.tokens r.last s ∷ for_out i.line ∷ []) ∷ []))

-- `{ i = a; do :: i < b -> i++ :: break od }`
abbrev pub select_of : Range → Basic
select_of r =
    let i = r.counter in
    b.Block (seq_of (setting i.line i.set i.tokens r.first ∷ turning i.line (select_on i.line i.compared i.raised i.tokens r.last ∷ select_out i.line ∷ []) ∷ []))

-- ---- bodies

-- any number of `;` and `->`
pub data SpellsSeparators : List Word → List Word → Type 0 where
  no_separator : {to : List Word} → SpellsSeparators to to
  one_separator : {s : Word} {from to : List Word} → is_separator s.kind ≡ true → SpellsSeparators from to → SpellsSeparators (s ∷ from) to

-- between two items; `closed` says that the one before ends with `}`, `fi`, `od` or `else`
pub data SpellsGap : Bool → List Word → List Word → Type 0 where
  separated : {closed : Bool} {s : Word} {from to : List Word} → is_separator s.kind ≡ true → SpellsSeparators from to → SpellsGap closed (s ∷ from) to
  joined : {to : List Word} → SpellsGap true to to

-- labels, each with its colon
pub data SpellsLabels : List Word → List Word → List Word → Type 0 where
  no_label : {to : List Word} → SpellsLabels [] to to
  one_label : {n c : Word} {labels from to : List Word} → n.kind ≡ k.Name → c.kind ≡ k.Colon → SpellsLabels labels from to
      → SpellsLabels (n ∷ labels) (n ∷ c ∷ from) to

-- The first argument of a list of items says that one of them is a statement.
mutual
  pub data SpellsBasic : Bool → Basic → List Word → List Word → Type 0 where
    if_fi : {o c : Word} {options : List Seq} {from to : List Word} → o.kind ≡ k.If → SpellsOptions options from (c ∷ to) → c.kind ≡ k.Fi
        → SpellsBasic true (b.If options) (o ∷ from) to
    do_od : {o c : Word} {options : List Seq} {from to : List Word} → o.kind ≡ k.Do → SpellsOptions options from (c ∷ to) → c.kind ≡ k.Od
        → SpellsBasic true (b.Do options) (o ∷ from) to
    block : {o c : Word} {xs : List Item} {from to : List Word} → o.kind ≡ k.OpenBrace → SpellsItems true xs from (c ∷ to) → c.kind ≡ k.CloseBrace
        → SpellsBasic true (b.Block (seq_of xs)) (o ∷ from) to
    atomic : {w o c : Word} {xs : List Item} {from to : List Word} → w.kind ≡ k.Atomic → o.kind ≡ k.OpenBrace → SpellsItems true xs from (c ∷ to)
        → c.kind ≡ k.CloseBrace
        → SpellsBasic true (b.Atomic (seq_of xs)) (w ∷ o ∷ from) to
    d_step : {w o c : Word} {xs : List Item} {from to : List Word} → w.kind ≡ k.DStep → o.kind ≡ k.OpenBrace → SpellsItems true xs from (c ∷ to)
        → c.kind ≡ k.CloseBrace
        → SpellsBasic true (b.DStep (seq_of xs)) (w ∷ o ∷ from) to
    for_loop : {o c : Word} {r : Range} {xs : List Item} {from middle to : List Word} → SpellsRange k.For r from (o ∷ middle) → o.kind ≡ k.OpenBrace
        → SpellsItems true xs middle (c ∷ to) → c.kind ≡ k.CloseBrace
        → SpellsBasic true (for_of r xs) from to
    select : {r : Range} {from to : List Word} → SpellsRange k.Select r from to → SpellsBasic false (select_of r) from to
    goto : {w n : Word} {to : List Word} → w.kind ≡ k.Goto → n.kind ≡ k.Name → SpellsBasic false (b.Goto n) (w ∷ n ∷ to) to
    break : {w : Word} {to : List Word} → w.kind ≡ k.Break → SpellsBasic false b.Break (w ∷ to) to
    action : {closed : Bool} {x : Action} {from to : List Word} → SpellsAction closed x from to → SpellsBasic closed (b.Plain x) from to

  pub data SpellsStatement : Bool → Item → List Word → List Word → Type 0 where
    statement : {closed : Bool} {labels : List Word} {x : Basic} {from middle to : List Word} → SpellsLabels labels from middle → SpellsBasic closed x middle to
        → SpellsStatement closed (item_of labels x (between middle to)) from to

  pub data SpellsItem : Bool → Bool → Item → List Word → List Word → Type 0 where
    declared : {closed : Bool} {vs : List Variable} {from to : List Word} → SpellsDeclaration closed vs from to
        → SpellsItem false closed (item_of [] (b.Declare vs) (between from to)) from to
    exclusive : {w : Word} {rs : List Reference} {from to : List Word} → is_exclusive w.kind ≡ true → SpellsList SpellsReference rs from to
        → SpellsItem false false (item_of [] (b.Exclusive rs) (between (w ∷ from) to)) (w ∷ from) to
    only : {closed : Bool} {x : Item} {from to : List Word} → SpellsStatement closed x from to → SpellsItem true closed x from to
    unless : {inner closed : Bool} {x y : Item} {w : Word} {from middle to : List Word} → SpellsStatement inner x from (w ∷ middle)
        → w.kind ≡ k.Unless → SpellsStatement closed y middle to
        → SpellsItem true closed (item_of [] (b.Unless (seq_of (x ∷ [])) (seq_of (y ∷ []))) (between from to)) from to

  pub data SpellsItems : Bool → List Item → List Word → List Word → Type 0 where
    last_item : {step closed : Bool} {x : Item} {from middle to : List Word} → SpellsItem step closed x from middle → SpellsSeparators middle to
        → SpellsItems step (x ∷ []) from to
    more_items : {step steps closed : Bool} {x : Item} {xs : List Item} {from middle later to : List Word} → SpellsItem step closed x from middle
        → SpellsGap closed middle later → SpellsItems steps xs later to
        → SpellsItems (step || steps) (x ∷ xs) from to

  pub data SpellsOptions : List Seq → List Word → List Word → Type 0 where
    last_option : {o : Word} {xs : List Item} {from to : List Word} → o.kind ≡ k.DoubleColon → SpellsItems true xs from to
        → SpellsOptions (seq_of xs ∷ []) (o ∷ from) to
    more_options : {o : Word} {xs : List Item} {options : List Seq} {from middle to : List Word} → o.kind ≡ k.DoubleColon
        → SpellsItems true xs from middle → SpellsOptions options middle to
        → SpellsOptions (seq_of xs ∷ options) (o ∷ from) to

-- the body of a process, which may be empty
pub data SpellsBody : List Item → List Word → List Word → Type 0 where
  no_item : {to : List Word} → SpellsBody [] to to
  some_items : {steps : Bool} {xs : List Item} {from to : List Word} → SpellsItems steps xs from to → SpellsBody xs from to

-- ---- units, and a whole model

-- ---- units

-- any number of `;`
pub data SpellsSemicolons : List Word → List Word → Type 0 where
  no_semicolon : {to : List Word} → SpellsSemicolons to to
  one_semicolon : {s : Word} {from to : List Word} → s.kind ≡ k.Semicolon → SpellsSemicolons from to → SpellsSemicolons (s ∷ from) to

-- the declarations of a typedef, with a semicolon at least between two
pub data SpellsMembers : List Variable → List Word → List Word → Type 0 where
  last_members : {closed : Bool} {vs : List Variable} {from middle to : List Word} → SpellsDeclaration closed vs from middle
      → SpellsSemicolons middle to → SpellsMembers vs from to
  more_members : {closed : Bool} {s : Word} {vs ws : List Variable} {from middle later to : List Word} → SpellsDeclaration closed vs from (s ∷ middle)
      → s.kind ≡ k.Semicolon → SpellsSemicolons middle later → SpellsMembers ws later to
      → SpellsMembers (vs ++ ws) from to

-- a parameter, behind its type
pub data SpellsParameter : Opener → Variable → List Word → List Word → Type 0 where
  plain_parameter : {s : Scalar} {n : Word} {to : List Word} → n.kind ≡ k.Name
      → SpellsParameter (opener.Plain s) (variable_of (sort.Plain s) n None None) (n ∷ to) to
  packed_parameter : {n c w : Word} {to : List Word} → n.kind ≡ k.Name → c.kind ≡ k.Colon → w.kind ≡ k.Number
      → SpellsParameter opener.Unsigned (variable_of (sort.Unsigned w) n None None) (n ∷ c ∷ w ∷ to) to

-- behind a parameter of this type: a comma may leave the type out, and the next has the same
pub data SpellsMoreParameters : Opener → List Variable → List Word → List Word → Type 0 where
  no_more_parameters : {f : Opener} {to : List Word} → SpellsMoreParameters f [] to to
  same_type : {f : Opener} {c : Word} {v : Variable} {vs : List Variable} {from middle to : List Word} → c.kind ≡ k.Comma
      → SpellsParameter f v from middle → SpellsMoreParameters f vs middle to
      → SpellsMoreParameters f (v ∷ vs) (c ∷ from) to
  comma_parameter : {f t : Opener} {c : Word} {v : Variable} {vs : List Variable} {from typed named middle to : List Word} → c.kind ≡ k.Comma
      → SpellsVisibility from typed → SpellsOpener t typed named
      → SpellsParameter t v named middle → SpellsMoreParameters t vs middle to → SpellsMoreParameters f (v ∷ vs) (c ∷ from) to
  semicolon_parameter : {f t : Opener} {c : Word} {v : Variable} {vs : List Variable} {from typed named middle to : List Word} → c.kind ≡ k.Semicolon
      → SpellsVisibility from typed → SpellsOpener t typed named
      → SpellsParameter t v named middle → SpellsMoreParameters t vs middle to → SpellsMoreParameters f (v ∷ vs) (c ∷ from) to

-- the parameters of a proctype
pub data SpellsParameters : List Variable → List Word → List Word → Type 0 where
  no_parameters : {to : List Word} → SpellsParameters [] to to
  parameters : {t : Opener} {v : Variable} {vs : List Variable} {from typed named middle to : List Word} → SpellsVisibility from typed
      → SpellsOpener t typed named → SpellsParameter t v named middle
      → SpellsMoreParameters t vs middle to → SpellsParameters (v ∷ vs) from to

-- whether a proctype is `active`, and how many processes begin with it
pub data SpellsStarts : Starts → List Word → List Word → Type 0 where
  never : {to : List Word} → SpellsStarts starts.Never to to
  once : {w : Word} {to : List Word} → w.kind ≡ k.Active → SpellsStarts starts.Once (w ∷ to) to
  times : {w o c : Word} {x : Expr} {from to : List Word} → w.kind ≡ k.Active → o.kind ≡ k.OpenBracket → SpellsExpr 1 x from (c ∷ to)
      → c.kind ≡ k.CloseBracket → SpellsStarts (starts.Times x) (w ∷ o ∷ from) to

-- one unit of a model
pub data SpellsUnit : ModelUnit → List Word → List Word → Type 0 where
  variables : {closed : Bool} {vs : List Variable} {from to : List Word} → SpellsDeclaration closed vs from to → SpellsUnit (u.Variables vs) from to
  constants : {w o c : Word} {ns from to : List Word} → w.kind ≡ k.Mtype → o.kind ≡ k.OpenBrace → SpellsList SpellsName ns from (c ∷ to)
      → c.kind ≡ k.CloseBrace → SpellsUnit (u.Constants ns) (w ∷ o ∷ from) to
  equal_constants : {w q o c : Word} {ns from to : List Word} → w.kind ≡ k.Mtype → q.kind ≡ k.Assign → o.kind ≡ k.OpenBrace
      → SpellsList SpellsName ns from (c ∷ to) → c.kind ≡ k.CloseBrace
      → SpellsUnit (u.Constants ns) (w ∷ q ∷ o ∷ from) to
  typedef : {w n o c : Word} {vs : List Variable} {from to : List Word} → w.kind ≡ k.Typedef → n.kind ≡ k.Name → o.kind ≡ k.OpenBrace
      → SpellsMembers vs from (c ∷ to) → c.kind ≡ k.CloseBrace
      → SpellsUnit (u.Typedef n vs) (w ∷ n ∷ o ∷ from) to
  proctype : {s : Starts} {p n o c d z : Word} {vs : List Variable} {xs : List Item} {from inner body to : List Word}
      → SpellsStarts s from (p ∷ n ∷ o ∷ inner) → p.kind ≡ k.Proctype → n.kind ≡ k.Name → o.kind ≡ k.OpenParen
      → SpellsParameters vs inner (c ∷ d ∷ body) → c.kind ≡ k.CloseParen → d.kind ≡ k.OpenBrace → SpellsBody xs body (z ∷ to) → z.kind ≡ k.CloseBrace
      → SpellsUnit (u.Proctype (proctype_tree s n vs (seq_of xs) z)) from to
  init : {w o c : Word} {xs : List Item} {from to : List Word} → w.kind ≡ k.Init → o.kind ≡ k.OpenBrace → SpellsBody xs from (c ∷ to) → c.kind ≡ k.CloseBrace
      → SpellsUnit (u.Proctype (proctype_tree starts.Once w [] (seq_of xs) c)) (w ∷ o ∷ from) to

-- units up to the end
pub data SpellsUnits : List ModelUnit → List Word → Type 0 where
  no_unit : SpellsUnits [] []
  semicolon : {s : Word} {us : List ModelUnit} {from : List Word} → s.kind ≡ k.Semicolon → SpellsUnits us from → SpellsUnits us (s ∷ from)
  unit : {x : ModelUnit} {us : List ModelUnit} {from to : List Word} → SpellsUnit x from to → SpellsUnits us to → SpellsUnits (x ∷ us) from

-- a model, by all of the tokens
pub data Spells : Tree → List Word → Type 0 where
  model : {us : List ModelUnit} {from : List Word} → SpellsUnits us from → Spells (tree_of us) from
