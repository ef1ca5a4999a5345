use Rattle.std.proofs.Common.{◌≡◌, length, ◌-◌, []}
use Rattle.pml_expression.specs.Reading as expressions
use Rattle.pml_syntax.specs.ReadingStatements as reading
use Rattle.pml_syntax.proofs.declaration.scalars.Given as goal

abbrev pub invariant-loop-turn : goal.invariant-loop-turn
invariant-loop-turn l =
    expressions.list_from reading.scalar_of (length l.fn.tokens) [] l.fn.tokens ≡ expressions.list_from reading.scalar_of (l._turn-end - l._turn) l.found l.tokens
