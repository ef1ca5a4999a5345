-- An operator before its operand: no operator between two operands takes the whole as its left side.
use Rattle.std.proofs.Common.{◌≡◌, ℕ, zero, suc, true, nat_lt, List, length, drop, Option, Some, None, Ok, refl}
use Rattle.pml_token.specs.Word.{Word}
use Rattle.pml_tree.specs.declared.tree.Infix.{Infix}
use Rattle.pml_tree.specs.declared.tree.Infix.TheVariants as op
use Rattle.pml_tree.specs.declared.tree.Prefix.{Prefix}
use Rattle.pml_tree.specs.declared.tree.Expr.{Expr}
use Rattle.pml_tree.specs.declared.tree.Expr.TheVariants as e
use Rattle.pml_expression.specs.declared.operators.Start.TheVariants as s
use Rattle.promela_grammar.specs.Expressions.{operator, level, prefix_level}
use Rattle.pml_expression.specs.Starts.{start}
use Rattle.pml_expression.specs.Reading as reading
use Rattle.pml_expression.specs.Reading.{Read, and_then, pick, next}

below : (i : Infix) → nat_lt (level i) prefix_level ≡ true
below op.Or = refl
below op.And = refl
below op.BitOr = refl
below op.BitXor = refl
below op.BitAnd = refl
below op.Equal = refl
below op.Unequal = refl
below op.Below = refl
below op.AtMost = refl
below op.Above = refl
below op.AtLeast = refl
below op.ShiftLeft = refl
below op.ShiftRight = refl
below op.Plus = refl
below op.Minus = refl
below op.Times = refl
below op.Divide = refl
below op.Remainder = refl

stops : (inner : ℕ → List Word → Read Expr) (again : Expr → List Word → Read Expr) (x : Expr) (ts : List Word) (o : Option Infix) → reading.climb_by inner again prefix_level x ts o ≡ Ok (x, ts)
unfolding pick
stops inner again x ts None = refl
stops inner again x ts (Some i) = rw (below i) refl

alone : (inner : ℕ → List Word → Read Expr) (n : ℕ) (x : Expr) (ts : List Word) → reading.climb inner n prefix_level x ts ≡ Ok (x, ts)
unfolding reading.climb
alone inner zero x ts = refl
alone inner (suc n) x ts = stops inner (reading.climb inner n prefix_level) x ts (operator (next ts))

pub before : (depth : ℕ) (p : Prefix) (ts : List Word) (x : Expr) (rest : List Word) → start (next ts) ≡ s.Prefix p → reading.expr depth prefix_level (drop 1 ts) ≡ Ok (x, rest)
    → reading.expr (suc depth) prefix_level ts ≡ Ok (e.Unary p x, rest)
unfolding reading.expr reading.level_of reading.prefix reading.operand and_then
before depth p ts x rest is h = rw is (rw h (alone (reading.expr depth) (length rest) (e.Unary p x) rest))
