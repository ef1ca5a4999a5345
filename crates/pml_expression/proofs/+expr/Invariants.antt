use Rattle.std.proofs.Common.{◌≡◌, length, ◌+◌, ◌-◌, ◌*◌, []}
use Rattle.pml_expression.specs.Reading as reading
use Rattle.pml_expression.proofs.+expr.Given as goal

abbrev pub decreases-expr::alternatives : goal.decreases-expr::alternatives
decreases-expr::alternatives l = 20 * l.depth + 4

abbrev pub decreases-references::argument : goal.decreases-references::argument
decreases-references::argument l = 20 * l.depth + 8

abbrev pub decreases-references::argument_list : goal.decreases-references::argument_list
decreases-references::argument_list l = 20 * l.depth + 9

abbrev pub decreases-references::arguments : goal.decreases-references::arguments
decreases-references::arguments l = 20 * l.depth + 12

abbrev pub decreases-expr::ask : goal.decreases-expr::ask
decreases-expr::ask l = 20 * l.depth + 8

abbrev pub decreases-expr::behind : goal.decreases-expr::behind
decreases-expr::behind l = 20 * l.depth + 14

abbrev pub decreases-references::behind_first : goal.decreases-references::behind_first
decreases-references::behind_first l = 20 * l.depth + 11

abbrev pub decreases-expr::boxed_expr : goal.decreases-expr::boxed_expr
decreases-expr::boxed_expr l = 20 * l.depth + 1

abbrev pub decreases-expr::boxed_operand : goal.decreases-expr::boxed_operand
decreases-expr::boxed_operand l = 20 * l.depth + 2

abbrev pub decreases-expr::chosen : goal.decreases-expr::chosen
decreases-expr::chosen l = 20 * l.depth + 3

abbrev pub decreases-expr::climb : goal.decreases-expr::climb
decreases-expr::climb l = 20 * l.depth + 3

abbrev pub decreases-references::enclosed : goal.decreases-references::enclosed
decreases-references::enclosed l = 20 * l.depth + 10

abbrev pub decreases-references::eval : goal.decreases-references::eval
decreases-references::eval l = 20 * l.depth + 4

abbrev pub decreases-expr::expr : goal.decreases-expr::expr
decreases-expr::expr l = 20 * l.depth

abbrev pub decreases-expr::expr_behind : goal.decreases-expr::expr_behind
decreases-expr::expr_behind l = 20 * l.depth + 2

abbrev pub decreases-references::expr_between : goal.decreases-references::expr_between
decreases-references::expr_between l = 20 * l.depth + 3

abbrev pub decreases-references::fields : goal.decreases-references::fields
decreases-references::fields l = 20 * l.depth + 6

abbrev pub decreases-expr::group : goal.decreases-expr::group
decreases-expr::group l = 20 * l.depth + 5

abbrev pub decreases-references::index : goal.decreases-references::index
decreases-references::index l = 20 * l.depth + 4

abbrev pub decreases-expr::infix_with : goal.decreases-expr::infix_with
decreases-expr::infix_with l = 20 * l.depth + 2

abbrev pub decreases-expr::operand : goal.decreases-expr::operand
decreases-expr::operand l = 20 * l.depth + 3

abbrev pub decreases-references::polled : goal.decreases-references::polled
decreases-references::polled l = 20 * l.depth + 13

abbrev pub decreases-expr::prefix : goal.decreases-expr::prefix
decreases-expr::prefix l = 20 * l.depth + 16

abbrev pub decreases-references::reference : goal.decreases-references::reference
decreases-references::reference l = 20 * l.depth + 7

abbrev pub decreases-references::step : goal.decreases-references::step
decreases-references::step l = 20 * l.depth + 5

abbrev pub decreases-expr::variable : goal.decreases-expr::variable
decreases-expr::variable l = 20 * l.depth + 15

abbrev pub invariant-references::argument_list-loop-turn : goal.invariant-references::argument_list-loop-turn
invariant-references::argument_list-loop-turn l =
    reading.list_from (reading.argument (reading.expr l.depth)) (length l.fn.tokens) l.fn.first l.fn.tokens ≡ reading.list_from (reading.argument (reading.expr l.depth)) (l._turn-end - l._turn) l.found l.tokens

abbrev pub invariant-expr::climb-loop-turn : goal.invariant-expr::climb-loop-turn
invariant-expr::climb-loop-turn l =
    reading.climb (reading.expr l.depth) (length l.fn.tokens) l.least l.fn.first l.fn.tokens ≡ reading.climb (reading.expr l.depth) (l._turn-end - l._turn) l.least l.left l.tokens

abbrev pub invariant-references::fields-loop-turn : goal.invariant-references::fields-loop-turn
invariant-references::fields-loop-turn l =
    reading.fields_from (reading.expr l.depth) (length l.fn.tokens) [] l.fn.tokens ≡ reading.fields_from (reading.expr l.depth) (l._turn-end - l._turn) l.found l.tokens
