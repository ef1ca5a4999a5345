-- Statements, with their names replaced.
use Rattle.std.specs.Prelude.{ℕ, List, [], ◌∷◌, ◌++◌, map, Option, Some, None}
use Rattle.pml_token.specs.Word.{Word}
use Rattle.pml_tree.specs.declared.tree.Expr.{Expr as TreeExpr}
use Rattle.pml_tree.specs.declared.tree.Reference.{Reference}
use Rattle.pml_tree.specs.declared.tree.Run.{Run as TreeRun}
use Rattle.pml_tree.specs.declared.tree.Variable.{Variable}
use Rattle.pml_tree.specs.declared.tree.Action.{Action as TreeAction}
use Rattle.pml_tree.specs.declared.tree.Action.TheVariants as t
use Rattle.pml_tree.specs.declared.tree.Basic.{Basic as TreeBasic, Basic-F, fold-Basic}
use Rattle.pml_tree.specs.declared.tree.Item.{Item, Item-F, fold-Item}
use Rattle.pml_tree.specs.declared.tree.Seq.{Seq as TreeSeq, Seq-F, fold-Seq}
use Rattle.promela_model.specs.declared.mark.Role.TheVariants as role
use Rattle.promela_model.specs.declared.thing.Thing.{Thing}
use Rattle.promela_model.specs.declared.thing.Thing.TheVariants as thing
use Rattle.check_names.specs.Entry.{Entry, found}
use Rattle.promela_model.specs.Names.{meaning}
use Rattle.pml_program.specs.declared.expr.Expr.{Expr}
use Rattle.pml_program.specs.declared.expr.Target.{Target}
use Rattle.pml_program.specs.declared.program.Run.{Run}
use Rattle.pml_program.specs.declared.program.Action.{Action}
use Rattle.pml_program.specs.declared.program.Action.TheVariants as a
use Rattle.pml_program.specs.declared.program.Basic.{Basic}
use Rattle.pml_program.specs.declared.program.Basic.TheVariants as b
use Rattle.pml_program.specs.declared.program.Stmt.{Stmt, roll-Stmt}
use Rattle.pml_program.specs.declared.program.Seq.{Seq, roll-Seq}
use Rattle.check_resolve.specs.declared.reached.Reached.{Reached}
use Rattle.check_resolve.specs.declared.reached.Reached.TheVariants as r
use Rattle.check_resolve.specs.Numbered.{Scope, scope, numbered, numbered_argument, numbered_reference, at_scope, target}
use Rattle.check_resolve.specs.Declarations.{Known, with_variables}

-- ---- statements that give no structure

abbrev pub values : List TreeExpr → Scope → List Expr
values [] sc = []
values (e ∷ es) sc = numbered e sc ∷ values es sc

-- where a store goes: nowhere for `_`
abbrev pub store : Reached → Option Target
store (r.Place p) = Some p
store _ = None

-- its number
abbrev pub proctype_of : Option Thing → ℕ
proctype_of (Some (thing.Proctype k n)) = k
proctype_of _ = 0

abbrev pub run : TreeRun → Scope → Run
run p sc = record { proctype = proctype_of (meaning (found sc.all) (found sc.names) sc.owner p.name.text); arguments = values p.arguments sc }

abbrev pub at : Reference → Scope → Target
at p sc = target (numbered_reference p sc)

abbrev pub action : TreeAction → Scope → Action
action t.Else sc = a.Else
action (t.Assign p e) sc = a.Assign (store (numbered_reference p sc)) (numbered e sc)
action (t.AssignRun p q) sc = a.AssignRun (store (numbered_reference p sc)) (run q sc)
action (t.Increment p) sc = a.Increment (at p sc)
action (t.Decrement p) sc = a.Decrement (at p sc)
action (t.Run q) sc = a.Run (run q sc)
action (t.Send p order es) sc = a.Send (at p sc) order (values es sc)
action (t.Receive p search how rs) sc = a.Receive (at p sc) search how (at_scope (map numbered_argument rs) sc)
action (t.Printf s es) sc = a.Printf s (values es sc)
action (t.Printm e) sc = a.Printm (numbered e sc)
action (t.Assert e) sc = a.Assert (numbered e sc)
action (t.Holds e) sc = a.Holds (numbered e sc)

-- ---- bodies

-- what stands for a part of a body and what is known behind it, by all names, the body's owner, and what is known before it
abbrev pub Threaded : Type 0 → Type 0
Threaded A = List Entry → ℕ → Known → A × Known

-- one after another
abbrev pub each : {A : Type 0} → List (Threaded A) → Threaded (List A)
each [] all o k = ([], k)
each (f ∷ fs) all o k = let x = f all o k in let xs = each fs all o x.1 in (x.0 ∷ xs.0, xs.1)

abbrev pub two : Threaded Seq → Threaded Seq → Threaded Basic
two f g all o k = let x = f all o k in let y = g all o x.1 in (b.Unless x.0 y.0, y.1)

-- none for what takes no step
abbrev pub basic_layer : Basic-F (Threaded (Option Basic)) (Threaded (List Stmt)) (Threaded Seq) → Threaded (Option Basic)
basic_layer (Basic-F.Declare vs) all o k = (None, with_variables all role.Variable o vs k)
basic_layer (Basic-F.Exclusive rs) all o k = (None, k)
basic_layer (Basic-F.Plain x) all o k = (Some (b.Plain (action x (scope all k.names o))), k)
basic_layer (Basic-F.Goto l) all o k = (Some (b.Goto l), k)
basic_layer Basic-F.Break all o k = (Some b.Break, k)
basic_layer (Basic-F.If fs) all o k = let xs = each fs all o k in (Some (b.If xs.0), xs.1)
basic_layer (Basic-F.Do fs) all o k = let xs = each fs all o k in (Some (b.Do xs.0), xs.1)
basic_layer (Basic-F.Block f) all o k = let x = f all o k in (Some (b.Block x.0), x.1)
basic_layer (Basic-F.Atomic f) all o k = let x = f all o k in (Some (b.Atomic x.0), x.1)
basic_layer (Basic-F.DStep f) all o k = let x = f all o k in (Some (b.DStep x.0), x.1)
basic_layer (Basic-F.Unless f g) all o k = let x = two f g all o k in (Some x.0, x.1)

abbrev pub stmts : List Word → Option Basic → List Word → List Stmt
stmts ls None ts = []
stmts ls (Some x) ts = roll-Stmt (record { labels = ls; basic = x; tokens = ts }) ∷ []

-- a statement with these labels and these tokens behind others
abbrev pub adds : List Stmt → List Word → Basic → List Word → List Stmt
adds ss ls x ts = ss ++ stmts ls (Some x) ts

-- what is known behind a declaration of variables
abbrev pub declares : List Variable → List Entry → ℕ → Known → Known
declares vs all o k = with_variables all role.Variable o vs k

abbrev pub item_layer : Item-F (Threaded (Option Basic)) (Threaded (List Stmt)) (Threaded Seq) → Threaded (List Stmt)
item_layer i all o k = let x = i.basic all o k in (stmts i.labels x.0 i.tokens, x.1)

abbrev pub joined : List (List Stmt) → List Stmt
joined [] = []
joined (s ∷ ss) = s ++ joined ss

abbrev pub seq_layer : Seq-F (Threaded (Option Basic)) (Threaded (List Stmt)) (Threaded Seq) → Threaded Seq
seq_layer s all o k = let xs = each s.items all o k in (roll-Seq (record { steps = joined xs.0 }), xs.1)

abbrev pub numbered_basic : TreeBasic → Threaded (Option Basic)
numbered_basic = fold-Basic (Threaded (Option Basic)) (Threaded (List Stmt)) (Threaded Seq) basic_layer item_layer seq_layer

abbrev pub numbered_item : Item → Threaded (List Stmt)
numbered_item = fold-Item (Threaded (Option Basic)) (Threaded (List Stmt)) (Threaded Seq) basic_layer item_layer seq_layer

-- a body, with its names replaced
abbrev pub numbered_seq : TreeSeq → Threaded Seq
numbered_seq = fold-Seq (Threaded (Option Basic)) (Threaded (List Stmt)) (Threaded Seq) basic_layer item_layer seq_layer
