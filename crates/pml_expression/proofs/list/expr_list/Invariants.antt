use Rattle.std.proofs.Common.{◌≡◌, length, ◌-◌}
use Rattle.pml_expression.specs.Reading as reading
use Rattle.pml_expression.proofs.list.expr_list.Given as goal

abbrev pub invariant-loop-turn : goal.invariant-loop-turn
invariant-loop-turn l =
    reading.list_from (reading.expr l.depth 1) (length l.fn.tokens) l.fn.first l.fn.tokens ≡ reading.list_from (reading.expr l.depth 1) (l._turn-end - l._turn) l.found l.tokens
