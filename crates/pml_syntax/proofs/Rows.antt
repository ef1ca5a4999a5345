-- A small `for` and a small `select`: their tokens, and their trees written out.
use Rattle.std.proofs.Common.{◌≡◌, ℕ, Bool, true, false, List, [], ◌∷◌, Option, Some, None, Ok, refl}
use lib.Chars.{codes}
use Rattle.pml_token.specs.Word.{Word}
use Rattle.pml_token.specs.declared.token.Kind.{Kind}
use Rattle.pml_token.specs.declared.token.Kind.TheVariants as k
use Rattle.pml_tree.specs.declared.tree.Infix.TheVariants as op
use Rattle.pml_tree.specs.declared.tree.Expr.{Expr}
use Rattle.pml_tree.specs.declared.tree.Expr.TheVariants as e
use Rattle.pml_tree.specs.declared.tree.Reference.{Reference}
use Rattle.pml_tree.specs.declared.tree.Action.TheVariants as a
use Rattle.pml_tree.specs.declared.tree.Basic.TheVariants as b
use Rattle.pml_tree.specs.declared.tree.Item.{Item}
use Rattle.promela_grammar.specs.Expressions.{named_step, reference_of}
use Rattle.pml_expression.specs.Reading as expressions
use Rattle.promela_grammar.specs.Actions.{item_of, seq_of}
use Rattle.promela_grammar.specs.Models.{SpellsItems}
use Rattle.pml_syntax.specs.ReadingStatements as reading
use Rattle.pml_syntax.proofs.FoundBodies.{items_found}

word : Kind → List ℕ → ℕ → Word
word kind text line = record { kind = kind; text = text; line = line }

name : List ℕ → ℕ → Word
name text line = word k.Name text line

plain_reference : Word → Reference
plain_reference w = reference_of (named_step w None) []

-- `for (i : 1 .. n || 3) { x++; }`, the word on line 2, what stands behind it on line 3
i : Word
i = name (codes "i") 3

one : Word
one = word k.Number (codes "1") 3

n : Word
n = name (codes "n") 3

either : Word
either = word k.OrOr (codes "||") 3

three : Word
three = word k.Number (codes "3") 3

x : Word
x = name (codes "x") 3

more : Word
more = word k.Increment (codes "++") 3

for_tokens : List Word
for_tokens =
    word k.For (codes "for") 2 ∷ word k.OpenParen (codes "(") 3 ∷ i ∷ word k.Colon (codes ":") 3 ∷ one ∷ word k.DotDot (codes "..") 3
    ∷ n ∷ either ∷ three ∷ word k.CloseParen (codes ")") 3 ∷ word k.OpenBrace (codes "{") 3 ∷ x ∷ more ∷ word k.Semicolon (codes ";") 3 ∷ word k.CloseBrace (codes "}") 3 ∷ []

-- `{ i = 1; do :: i <= (n || 3) -> x++; i++ :: else -> break od }`, and no statement has the parentheses
for_tree : Item
for_tree = item_of [] (b.Block (seq_of (
    item_of [] (b.Plain (a.Assign (plain_reference i) (e.Number one))) (i ∷ word k.Assign (codes "=") 2 ∷ one ∷ [])
    ∷ item_of [] (b.Do (
    seq_of (
    item_of [] (b.Plain (a.Holds (e.Binary op.AtMost (e.Read (plain_reference i)) (e.Binary op.Or (e.Read (plain_reference n)) (e.Number three))))) (i ∷ word k.AtMost (codes "<=") 2 ∷ n ∷ either ∷ three ∷ [])
    ∷ item_of [] (b.Plain (a.Increment (plain_reference x))) (x ∷ more ∷ [])
    ∷ item_of [] (b.Plain (a.Increment (plain_reference i))) (i ∷ word k.Increment (codes "++") 2 ∷ [])
    ∷ [])
    ∷ seq_of (item_of [] (b.Plain a.Else) (word k.Else (codes "else") 2 ∷ []) ∷ item_of [] b.Break (word k.Break (codes "break") 2 ∷ []) ∷ [])
    ∷ [])) (word k.Do (codes "do") 2 ∷ [])
    ∷ []))) for_tokens

for_is_read : reading.items 30 for_tokens ≡ Ok ((for_tree ∷ [], true), [])
unfolding for_tokens reading.items reading.items_from reading.item reading.is_declaration reading.stepped reading.statement reading.labels_from reading.is_label reading.basic reading.for_loop reading.loop_range reading.opened reading.loop_variable reading.loop_bounds reading.loop_bound reading.braces reading.seq reading.plainly reading.action reading.reference_first reading.changed reading.skip_separators expressions.expr expressions.level_of expressions.climb expressions.infix_with expressions.prefix expressions.variable expressions.number expressions.behind expressions.reference expressions.step expressions.index expressions.fields_from expressions.expect expressions.sees expressions.and_then expressions.pick word i name one n either three x more for_tree plain_reference
for_is_read = refl

-- so it is spelled
for_is_spelled : SpellsItems true (for_tree ∷ []) for_tokens []
for_is_spelled = items_found 30 for_tokens _ for_is_read

-- `select (i : 1 .. 3)`, the word on line 2, what stands behind it on line 3
select_tokens : List Word
select_tokens =
    word k.Select (codes "select") 2 ∷ word k.OpenParen (codes "(") 3 ∷ i ∷ word k.Colon (codes ":") 3 ∷ one ∷ word k.DotDot (codes "..") 3 ∷ three ∷ word k.CloseParen (codes ")") 3 ∷ []

-- `{ i = 1; do :: i < 3 -> i++ :: break od }`
select_tree : Item
select_tree = item_of [] (b.Block (seq_of (
    item_of [] (b.Plain (a.Assign (plain_reference i) (e.Number one))) (i ∷ word k.Assign (codes "=") 2 ∷ one ∷ [])
    ∷ item_of [] (b.Do (
    seq_of (
    item_of [] (b.Plain (a.Holds (e.Binary op.Below (e.Read (plain_reference i)) (e.Number three)))) (i ∷ word k.Less (codes "<") 2 ∷ three ∷ [])
    ∷ item_of [] (b.Plain (a.Increment (plain_reference i))) (i ∷ word k.Increment (codes "++") 2 ∷ [])
    ∷ [])
    ∷ seq_of (item_of [] b.Break (word k.Break (codes "break") 2 ∷ []) ∷ [])
    ∷ [])) (word k.Do (codes "do") 2 ∷ [])
    ∷ []))) select_tokens

select_is_read : reading.items 20 select_tokens ≡ Ok ((select_tree ∷ [], true), [])
unfolding select_tokens reading.items reading.items_from reading.item reading.is_declaration reading.stepped reading.statement reading.labels_from reading.is_label reading.basic reading.select reading.loop_range reading.opened reading.loop_variable reading.loop_bounds reading.loop_bound reading.skip_separators expressions.expr expressions.level_of expressions.climb expressions.prefix expressions.number expressions.reference expressions.step expressions.index expressions.fields_from expressions.expect expressions.sees expressions.and_then expressions.pick word i name one three select_tree plain_reference
select_is_read = refl

select_is_spelled : SpellsItems true (select_tree ∷ []) select_tokens []
select_is_spelled = items_found 20 select_tokens _ select_is_read
