-- The grammar of actions and of declarations: which tree the tokens from one place up to another spell. Each relation has one rule for
-- each production. `from` is the list of the tokens from a place on, and `to` the list of those that are left behind it.
-- Hold it against the pages `grammar`, `send`, `receive` and `datatypes`.
use Rattle.std.specs.Prelude.{◌≡◌, ℕ, Bool, true, false, List, [], ◌∷◌, Option, Some, None}
use Rattle.pml_token.specs.Word.{Word}
use Rattle.pml_token.specs.declared.token.Kind.{Kind}
use Rattle.pml_token.specs.declared.token.Kind.TheVariants as k
use Rattle.pml_tree.specs.declared.tree.Scalar.{Scalar}
use Rattle.pml_tree.specs.declared.tree.Scalar.TheVariants as scalars
use Rattle.pml_tree.specs.declared.tree.Expr.{Expr}
use Rattle.pml_tree.specs.declared.tree.Reference.{Reference}
use Rattle.pml_tree.specs.declared.tree.Search.{Search}
use Rattle.pml_tree.specs.declared.tree.SendOrder.{SendOrder}
use Rattle.pml_tree.specs.declared.tree.SendOrder.TheVariants as orders
use Rattle.pml_tree.specs.declared.tree.Removal.TheVariants as removal
use Rattle.pml_tree.specs.declared.tree.Argument.{Argument}
use Rattle.pml_tree.specs.declared.tree.Sort.{Sort}
use Rattle.pml_tree.specs.declared.tree.Sort.TheVariants as sort
use Rattle.pml_tree.specs.declared.tree.Initial.{Initial}
use Rattle.pml_tree.specs.declared.tree.Initial.TheVariants as ini
use Rattle.pml_tree.specs.declared.tree.Variable.{Variable}
use Rattle.pml_tree.specs.declared.tree.Run.{Run}
use Rattle.pml_tree.specs.declared.tree.Action.{Action}
use Rattle.pml_tree.specs.declared.tree.Action.TheVariants as a
use Rattle.pml_tree.specs.declared.tree.Basic.{Basic}
use Rattle.pml_tree.specs.declared.tree.Item.{Item, roll-Item}
use Rattle.pml_tree.specs.declared.tree.Seq.{Seq, roll-Seq}
use Rattle.pml_tree.specs.declared.tree.Starts.{Starts}
use Rattle.pml_tree.specs.declared.tree.Proctype.{Proctype}
use Rattle.pml_tree.specs.declared.tree.Unit.{Unit as ModelUnit}
use Rattle.pml_tree.specs.declared.tree.Tree.{Tree}
use Rattle.promela_grammar.specs.declared.opener.Opener.{Opener}
use Rattle.promela_grammar.specs.declared.opener.Opener.TheVariants as opener
use Rattle.promela_grammar.specs.declared.range.Counter.{Counter}
use Rattle.promela_grammar.specs.declared.range.Bound.{Bound}
use Rattle.promela_grammar.specs.declared.range.Range.{Range}
use Rattle.promela_grammar.specs.Expressions.{query, SpellsIndex, SpellsReference, SpellsExpr, SpellsArguments, SpellsList}

-- ---- what the tokens mean alone

-- `!` or `!!`
abbrev pub bang : Kind → Option SendOrder
bang k.Bang = Some orders.Fifo
bang k.BangBang = Some orders.Sorted
bang _ = None

-- the type that a word names
abbrev pub scalar : Kind → Option Scalar
scalar k.Bit = Some scalars.Bit
scalar k.Bool = Some scalars.Bool
scalar k.Byte = Some scalars.Byte
scalar k.Chan = Some scalars.Chan
scalar k.Mtype = Some scalars.Mtype
scalar k.Pid = Some scalars.Pid
scalar k.Short = Some scalars.Short
scalar k.Int = Some scalars.Int
scalar _ = None

-- `hidden`, `show` or `local`
abbrev pub is_visibility : Kind → Bool
is_visibility k.Hidden = true
is_visibility k.Show = true
is_visibility k.Local = true
is_visibility _ = false

-- `xr` or `xs`
abbrev pub is_exclusive : Kind → Bool
is_exclusive k.Xr = true
is_exclusive k.Xs = true
is_exclusive _ = false

-- `;` or `->`
abbrev pub is_separator : Kind → Bool
is_separator k.Semicolon = true
is_separator k.Arrow = true
is_separator _ = false

-- ---- the trees, by their parts

-- `run name(arguments)`
abbrev pub run_of : Word → List Expr → Run
run_of name arguments = record { name = name; arguments = arguments }

-- a variable of a sort, with its name, its size in brackets and its initialiser
abbrev pub variable_of : Sort → Word → Option Expr → Option Initial → Variable
variable_of sort name size initial = record { sort = sort; name = name; size = size; initial = initial }

-- a statement with its labels and the tokens that are shown of it
abbrev pub item_of : List Word → Basic → List Word → Item
item_of labels basic tokens = roll-Item (record { labels = labels; basic = basic; tokens = tokens })

-- statements one behind another
abbrev pub seq_of : List Item → Seq
seq_of items = roll-Seq (record { items = items })

-- what a `for` or a `select` counts over: its variable, which stands in three statements (one sets it, one compares it, one raises it), with the line of
-- the word before it, and its first and its last value, each with its tokens
abbrev pub counter_of : ℕ → Reference → List Word → Counter
counter_of line i tokens = record { line = line; set = i; compared = i; raised = i; tokens = tokens }

-- the first or the last value of a range, with its tokens
abbrev pub bound_of : Expr → List Word → Bound
bound_of value tokens = record { value = value; tokens = tokens }

-- what is counted, from a first value up to a last one
abbrev pub range_of : Counter → Bound → Bound → Range
range_of counter first last = record { counter = counter; first = first; last = last }

-- a proctype, with the token that closes it
abbrev pub proctype_tree : Starts → Word → List Variable → Seq → Word → Proctype
proctype_tree starts name parameters body end = record { starts = starts; name = name; parameters = parameters; body = body; end = end }

-- the units of a model
abbrev pub tree_of : List ModelUnit → Tree
tree_of units = record { units = units }

-- a name is one token
pub data SpellsName : Word → List Word → List Word → Type 0 where
  name : {n : Word} {to : List Word} → n.kind ≡ k.Name → SpellsName n (n ∷ to) to

-- the word of a type
pub data SpellsScalar : Scalar → List Word → List Word → Type 0 where
  scalar_type : {w : Word} {s : Scalar} {to : List Word} → scalar w.kind ≡ Some s → SpellsScalar s (w ∷ to) to

-- ---- statements without a structure. Their first argument says that they end with `}`, `fi`, `od` or `else`.

-- `run` of a proctype with its arguments, in parentheses or without
pub data SpellsRun : Run → List Word → List Word → Type 0 where
  run_nothing : {r n o c : Word} {to : List Word} → r.kind ≡ k.Run → n.kind ≡ k.Name → o.kind ≡ k.OpenParen → c.kind ≡ k.CloseParen
      → SpellsRun (run_of n []) (r ∷ n ∷ o ∷ c ∷ to) to
  run_with : {r n o c : Word} {xs : List Expr} {from to : List Word} → r.kind ≡ k.Run → n.kind ≡ k.Name → o.kind ≡ k.OpenParen
      → SpellsList (SpellsExpr 1) xs from (c ∷ to) → c.kind ≡ k.CloseParen
      → SpellsRun (run_of n xs) (r ∷ n ∷ o ∷ from) to
  run_group : {o c : Word} {x : Run} {from to : List Word} → o.kind ≡ k.OpenParen → SpellsRun x from (c ∷ to) → c.kind ≡ k.CloseParen
      → SpellsRun x (o ∷ from) to

-- what is sent: `x,y` and `x(y)` are the same values
pub data SpellsValues : List Expr → List Word → List Word → Type 0 where
  value_list : {xs : List Expr} {from to : List Word} → SpellsList (SpellsExpr 1) xs from to → SpellsValues xs from to
  value_call : {x : Expr} {xs : List Expr} {o c : Word} {from middle to : List Word} → SpellsExpr 1 x from (o ∷ middle) → o.kind ≡ k.OpenParen
      → SpellsList (SpellsExpr 1) xs middle (c ∷ to) → c.kind ≡ k.CloseParen
      → SpellsValues (x ∷ xs) from to

pub data SpellsAction : Bool → Action → List Word → List Word → Type 0 where
  otherwise : {w : Word} {to : List Word} → w.kind ≡ k.Else → SpellsAction true a.Else (w ∷ to) to
  assign : {r : Reference} {x : Expr} {o : Word} {from middle to : List Word} → SpellsReference r from (o ∷ middle) → o.kind ≡ k.Assign
      → SpellsExpr 1 x middle to
      → SpellsAction false (a.Assign r x) from to
  assign_run : {r : Reference} {x : Run} {o : Word} {from middle to : List Word} → SpellsReference r from (o ∷ middle) → o.kind ≡ k.Assign
      → SpellsRun x middle to
      → SpellsAction false (a.AssignRun r x) from to
  increment : {r : Reference} {o : Word} {from to : List Word} → SpellsReference r from (o ∷ to) → o.kind ≡ k.Increment
      → SpellsAction false (a.Increment r) from to
  decrement : {r : Reference} {o : Word} {from to : List Word} → SpellsReference r from (o ∷ to) → o.kind ≡ k.Decrement
      → SpellsAction false (a.Decrement r) from to
  run : {x : Run} {from to : List Word} → SpellsRun x from to → SpellsAction false (a.Run x) from to
  send : {r : Reference} {o : Word} {order : SendOrder} {xs : List Expr} {from middle to : List Word} → SpellsReference r from (o ∷ middle)
      → bang o.kind ≡ Some order → SpellsValues xs middle to
      → SpellsAction false (a.Send r order xs) from to
  receive : {r : Reference} {q : Word} {look : Search} {xs : List Argument} {from middle to : List Word} → SpellsReference r from (q ∷ middle)
      → query q.kind ≡ Some look → SpellsArguments xs middle to
      → SpellsAction false (a.Receive r look removal.Remove xs) from to
  -- in `<>` the message stays in the channel
  copy : {r : Reference} {q o c : Word} {look : Search} {xs : List Argument} {from middle to : List Word} → SpellsReference r from (q ∷ o ∷ middle)
      → query q.kind ≡ Some look → o.kind ≡ k.Less
      → SpellsArguments xs middle (c ∷ to) → c.kind ≡ k.Greater → SpellsAction false (a.Receive r look removal.Keep xs) from to
  printf : {w o s c : Word} {to : List Word} → w.kind ≡ k.Printf → o.kind ≡ k.OpenParen → s.kind ≡ k.Quoted → c.kind ≡ k.CloseParen
      → SpellsAction false (a.Printf s []) (w ∷ o ∷ s ∷ c ∷ to) to
  printf_with : {w o s m c : Word} {xs : List Expr} {from to : List Word} → w.kind ≡ k.Printf → o.kind ≡ k.OpenParen → s.kind ≡ k.Quoted
      → m.kind ≡ k.Comma → SpellsList (SpellsExpr 1) xs from (c ∷ to) → c.kind ≡ k.CloseParen
      → SpellsAction false (a.Printf s xs) (w ∷ o ∷ s ∷ m ∷ from) to
  printm : {w o c : Word} {x : Expr} {from to : List Word} → w.kind ≡ k.Printm → o.kind ≡ k.OpenParen → SpellsExpr 1 x from (c ∷ to)
      → c.kind ≡ k.CloseParen → SpellsAction false (a.Printm x) (w ∷ o ∷ from) to
  assert : {w : Word} {x : Expr} {from to : List Word} → w.kind ≡ k.Assert → SpellsExpr 1 x from to → SpellsAction false (a.Assert x) (w ∷ from) to
  holds : {x : Expr} {from to : List Word} → SpellsExpr 1 x from to → SpellsAction false (a.Holds x) from to

-- ---- declarations. Here too the first argument says that they end with `}`.

-- at most one word that says who sees a variable, which means nothing here
pub data SpellsVisibility : List Word → List Word → Type 0 where
  no_visibility : {to : List Word} → SpellsVisibility to to
  visibility : {w : Word} {to : List Word} → is_visibility w.kind ≡ true → SpellsVisibility (w ∷ to) to

-- what a declaration begins with: the word of a type, `unsigned`, or the name of a typedef
pub data SpellsOpener : Opener → List Word → List Word → Type 0 where
  of_scalar : {w : Word} {s : Scalar} {to : List Word} → scalar w.kind ≡ Some s → SpellsOpener (opener.Plain s) (w ∷ to) to
  of_unsigned : {w : Word} {to : List Word} → w.kind ≡ k.Unsigned → SpellsOpener opener.Unsigned (w ∷ to) to
  of_typedef : {w : Word} {to : List Word} → w.kind ≡ k.Name → SpellsOpener (opener.Named w) (w ∷ to) to

-- an initialiser: none, a value, or a channel with its capacity and its types
pub data SpellsInitial : Bool → Option Initial → List Word → List Word → Type 0 where
  no_initial : {to : List Word} → SpellsInitial false None to to
  value : {o : Word} {x : Expr} {from to : List Word} → o.kind ≡ k.Assign → SpellsExpr 1 x from to → SpellsInitial false (Some (ini.Value x)) (o ∷ from) to
  channel : {w o c f d z : Word} {x : Expr} {ss : List Scalar} {from types to : List Word} → w.kind ≡ k.Assign → o.kind ≡ k.OpenBracket
      → SpellsExpr 1 x from (c ∷ f ∷ d ∷ types) → c.kind ≡ k.CloseBracket
      → f.kind ≡ k.Of → d.kind ≡ k.OpenBrace → SpellsList SpellsScalar ss types (z ∷ to) → z.kind ≡ k.CloseBrace
      → SpellsInitial true (Some (ini.Channel x ss)) (w ∷ o ∷ from) to

-- a variable of a declaration, behind its type
pub data SpellsVariable : Bool → Opener → Variable → List Word → List Word → Type 0 where
  plain : {closed : Bool} {s : Scalar} {n : Word} {x : Option Expr} {i : Option Initial} {from middle to : List Word} → n.kind ≡ k.Name
      → SpellsIndex x from middle → SpellsInitial closed i middle to
      → SpellsVariable closed (opener.Plain s) (variable_of (sort.Plain s) n x i) (n ∷ from) to
  structured : {t n : Word} {x : Option Expr} {from to : List Word} → n.kind ≡ k.Name → SpellsIndex x from to
      → SpellsVariable false (opener.Named t) (variable_of (sort.Named t) n x None) (n ∷ from) to
  packed : {n c w : Word} {to : List Word} → n.kind ≡ k.Name → c.kind ≡ k.Colon → w.kind ≡ k.Number
      → SpellsVariable false opener.Unsigned (variable_of (sort.Unsigned w) n None None) (n ∷ c ∷ w ∷ to) to
  packed_value : {n c w o : Word} {x : Expr} {from to : List Word} → n.kind ≡ k.Name → c.kind ≡ k.Colon → w.kind ≡ k.Number → o.kind ≡ k.Assign
      → SpellsExpr 1 x from to
      → SpellsVariable false opener.Unsigned (variable_of (sort.Unsigned w) n None (Some (ini.Value x))) (n ∷ c ∷ w ∷ o ∷ from) to

-- variables of one type, with commas between
pub data SpellsVariables : Bool → Opener → List Variable → List Word → List Word → Type 0 where
  last_variable : {closed : Bool} {f : Opener} {v : Variable} {from to : List Word} → SpellsVariable closed f v from to
      → SpellsVariables closed f (v ∷ []) from to
  more_variables : {closed later : Bool} {f : Opener} {v : Variable} {vs : List Variable} {c : Word} {from middle to : List Word}
      → SpellsVariable closed f v from (c ∷ middle) → c.kind ≡ k.Comma → SpellsVariables later f vs middle to
      → SpellsVariables later f (v ∷ vs) from to

-- a declaration: its type, and its variables
pub data SpellsDeclaration : Bool → List Variable → List Word → List Word → Type 0 where
  declaration : {closed : Bool} {f : Opener} {vs : List Variable} {from typed named to : List Word} → SpellsVisibility from typed
      → SpellsOpener f typed named → SpellsVariables closed f vs named to
      → SpellsDeclaration closed vs from to
