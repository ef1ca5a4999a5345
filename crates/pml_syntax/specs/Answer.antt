-- What is answered for a tree.
use Rattle.std.specs.Prelude.{◌≡◌, ℕ, ◌≤◌, Bool, true, false, List, [], Result, Ok, Err}
use Rattle.pml_token.specs.Word.{Word}
use Rattle.pml_expression.specs.declared.fault.ReadFault.{ReadFault}
use Rattle.pml_expression.specs.declared.fault.ReadFault.TheVariants as reads
use Rattle.pml_expression.specs.Reading.{Read, Fails}
use Rattle.pml_tree.specs.declared.tree.Basic.{Basic}
use Rattle.pml_tree.specs.declared.tree.Basic.TheVariants as b
use Rattle.pml_tree.specs.declared.tree.Item.{Item}
use Rattle.pml_tree.specs.declared.tree.Seq.{Seq}
use Rattle.pml_tree.specs.declared.tree.Tree.{Tree}
use Rattle.promela_grammar.specs.Actions.{item_of}
use Rattle.pml_syntax.specs.declared.program.SyntaxError.{SyntaxError}
use Rattle.pml_syntax.specs.declared.program.SyntaxError.TheVariants as fault
use Rattle.pml_syntax.specs.declared.starts.Opening.{Opening}
use Rattle.pml_syntax.specs.declared.starts.Opening.TheVariants as o

-- this tree, unless memory ran out
abbrev pub Answers : Tree → Result Tree SyntaxError → Type 0
Answers t (Ok x) = x ≡ t
Answers t (Err fault.Memory) = Unit {0}
Answers t (Err (fault.Syntax line)) = ⊥

-- one of the lines of a text of this many
abbrev pub IsOnLine : ℕ → ℕ → Type 0
IsOnLine most line = (1 ≤ line) × (line ≤ most)

-- what reading gives, whatever it leaves, unless memory ran out
abbrev pub Gives : {A : Type 0} → Read A → Result A ReadFault → Type 0
Gives read (Ok x) = (to : List Word) × (read ≡ Ok (x, to))
Gives read (Err f) = Fails f read

-- this, unless memory ran out
abbrev pub Makes : {A : Type 0} → A → Result A ReadFault → Type 0
Makes x (Ok y) = y ≡ x
Makes x (Err f) = f ≡ reads.Memory

-- what was put together and this beside it, or that memory ran out
abbrev pub Beside : {A B E : Type 0} → Result A E → B → Result (A × B) ReadFault → Type 0
Beside (Ok x) y r = r ≡ Ok (x, y)
Beside (Err e) y r = r ≡ Err reads.Memory

-- the item of a statement that was put together, without labels, and these beside it, or that memory ran out
abbrev pub ItemOf : {E : Type 0} → Result Basic E → List Word → Bool → Bool → Result (Item × Bool × Bool) ReadFault → Type 0
ItemOf (Ok x) tokens step closed r = r ≡ Ok (item_of [] x tokens, step, closed)
ItemOf (Err e) tokens step closed r = r ≡ Err reads.Memory

-- the statement of these options: a `do`, or an `if`
abbrev pub of_options : Bool → List Seq → Basic
of_options true xs = b.Do xs
of_options false xs = b.If xs

-- the statement of a body in braces
abbrev pub of_braces : Opening → Seq → Basic
of_braces o.Atomic s = b.Atomic s
of_braces o.DStep s = b.DStep s
of_braces _ s = b.Block s
