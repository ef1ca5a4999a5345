use Rattle.std.proofs.Common.{◌≡◌, length, ◌-◌, []}
use Rattle.pml_expression.specs.Reading as expressions
use Rattle.pml_syntax.proofs.declaration.references.Given as goal

abbrev pub invariant-loop-turn : goal.invariant-loop-turn
invariant-loop-turn l =
    expressions.list_from (expressions.reference (expressions.expr l.depth)) (length l.fn.tokens) [] l.fn.tokens ≡ expressions.list_from (expressions.reference (expressions.expr l.depth)) (l._turn-end - l._turn) l.found l.tokens
