use Rattle.std.proofs.Common.{◌≡◌, length, ◌-◌, []}
use Rattle.pml_expression.specs.Reading as expressions
use Rattle.pml_token.specs.declared.token.Kind.TheVariants as k
use Rattle.pml_syntax.proofs.unit.name_list.Given as goal

abbrev pub invariant-loop-turn : goal.invariant-loop-turn
invariant-loop-turn l =
    expressions.list_from (expressions.expect k.Name) (length l.fn.tokens) [] l.fn.tokens ≡ expressions.list_from (expressions.expect k.Name) (l._turn-end - l._turn) l.found l.tokens
