use Rattle.std.proofs.Common.{◌≡◌, ◌-◌, drop, Ok, rules, arith}
use Rattle.promela_grammar.specs.Expressions.{prefix_level}
use Rattle.pml_expression.specs.Starts.{start}
use Rattle.pml_expression.specs.declared.operators.Start.TheVariants as s
use Rattle.std.proofs.lemmas.Grind.{common_steps}
use Rattle.pml_expression.specs.Reading as reading
use Rattle.pml_expression.specs.Reading.{and_then, pick, next}
use Rattle.pml_expression.proofs.Turns.{one_more, deeper}
use Rattle.pml_expression.proofs.Signs.{before}
use Rattle.pml_expression.proofs.+expr.Goals as goal

pub references::argument_list-loop-turn-preserved : goal.references::argument_list-loop-turn-preserved
unfolding reading.list_from and_then pick
references::argument_list-loop-turn-preserved t c =
    let e = one_more (λ n. reading.list_from (reading.argument (reading.expr c.args.depth)) n c.loop-turn.found c.loop-turn.tokens) c.left-turn-end.result c.loop-turn._turn c.loop-turn-test.true c.loop-turn.invariant in
    first_of (search rules, grind (arith, common_steps))

pub expr::boxed_operand-returns : goal.expr::boxed_operand-returns
expr::boxed_operand-returns t c =
    let is : start (next c.args.tokens.now) ≡ s.Prefix c.in-Prefix.op = search rules in
    let inside : reading.expr (c.args.depth - 1) prefix_level (drop 1 c.args.tokens.now) ≡ Ok (c.in_ok-x.x, c.boxed_operand.new.tokens) = search rules in
    let read = before (c.args.depth - 1) c.in-Prefix.op c.args.tokens.now c.in_ok-x.x c.boxed_operand.new.tokens is inside in
    rw (deeper (λ n. reading.expr n prefix_level c.args.tokens.now) c.args.depth (omega arith)) (search rules)

pub expr::climb-loop-turn-preserved : goal.expr::climb-loop-turn-preserved
unfolding reading.climb and_then pick
expr::climb-loop-turn-preserved t c =
    let e = one_more (λ n. reading.climb (reading.expr c.args.depth) n c.args.least c.loop-turn.left c.loop-turn.tokens) c.left-turn-end.result c.loop-turn._turn c.loop-turn-test.true c.loop-turn.invariant in
    first_of (search rules, grind (arith, common_steps))

pub expr::climb-returns-then-level-least : goal.expr::climb-returns-then-level-least
unfolding reading.climb and_then pick
expr::climb-returns-then-level-least t c =
    let e = one_more (λ n. reading.climb (reading.expr c.args.depth) n c.args.least c.loop-turn.left c.loop-turn.tokens) c.left-turn-end.result c.loop-turn._turn c.loop-turn-test.true c.loop-turn.invariant in
    first_of (search rules, grind (arith, common_steps))

pub expr::climb-returns-in_err-left : goal.expr::climb-returns-in_err-left
unfolding reading.climb and_then pick
expr::climb-returns-in_err-left t c =
    let e = one_more (λ n. reading.climb (reading.expr c.args.depth) n c.args.least c.loop-turn.left c.loop-turn.tokens) c.left-turn-end.result c.loop-turn._turn c.loop-turn-test.true c.loop-turn.invariant in
    first_of (search rules, grind (arith, common_steps))

pub expr::expr-returns : goal.expr::expr-returns
unfolding reading.expr reading.level_of and_then
expr::expr-returns t c = rw (deeper (λ n. reading.expr n c.args.least c.args.tokens.now) c.args.depth (omega arith)) (search rules)

pub references::fields-loop-turn-preserved : goal.references::fields-loop-turn-preserved
unfolding reading.fields_from and_then pick
references::fields-loop-turn-preserved t c =
    let e = one_more (λ n. reading.fields_from (reading.expr c.args.depth) n c.loop-turn.found c.loop-turn.tokens) c.left-turn-end.result c.loop-turn._turn c.loop-turn-test.true c.loop-turn.invariant in
    first_of (search rules, grind (arith, common_steps))
