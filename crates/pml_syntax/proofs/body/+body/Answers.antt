use Rattle.std.proofs.Common.{rules, arith}
use Rattle.std.proofs.lemmas.Grind.{common_steps}
use Rattle.pml_expression.specs.Reading.{and_then, pick}
use Rattle.pml_syntax.specs.ReadingStatements as reading
use Rattle.pml_expression.proofs.Turns.{one_more, deeper}
use Rattle.pml_syntax.proofs.body.+body.Goals as goal

pub body-returns : goal.body-returns
unfolding reading.items
body-returns t c = rw (deeper (λ n. reading.items n c.args.tokens.now) c.args.depth (omega arith)) c.items.ensures

pub items-returns-in_err-x : goal.items-returns-in_err-x
unfolding reading.items_from and_then
items-returns-in_err-x t c =
    let e = one_more (λ n. reading.items_from c.args.depth (reading.items c.args.depth) n c.loop-turn.step c.loop-turn.found c.loop-turn.tokens) c.left-turn-end.result c.loop-turn._turn c.loop-turn-test.true c.loop-turn.invariant in
    first_of (search rules, grind (arith, common_steps))

pub items-loop-turn-preserved : goal.items-loop-turn-preserved
unfolding reading.items_from and_then pick
items-loop-turn-preserved t c =
    let e = one_more (λ n. reading.items_from c.args.depth (reading.items c.args.depth) n c.loop-turn.step c.loop-turn.found c.loop-turn.tokens) c.left-turn-end.result c.loop-turn._turn c.loop-turn-test.true c.loop-turn.invariant in
    first_of (search rules, grind (arith, common_steps))

pub option_list-loop-turn-preserved : goal.option_list-loop-turn-preserved
unfolding reading.options_from and_then pick
option_list-loop-turn-preserved t c =
    let e = one_more (λ n. reading.options_from c.args.depth (reading.items c.args.depth) n c.loop-turn.found c.loop-turn.tokens) c.left-turn-end.result c.loop-turn._turn c.loop-turn-test.true c.loop-turn.invariant in
    first_of (search rules, grind (arith, common_steps))

pub items-returns-then-not-joined : goal.items-returns-then-not-joined
unfolding reading.items_from and_then pick
items-returns-then-not-joined t c =
    let e = one_more (λ n. reading.items_from c.args.depth (reading.items c.args.depth) n c.loop-turn.step c.loop-turn.found c.loop-turn.tokens) c.left-turn-end.result c.loop-turn._turn c.loop-turn-test.true c.loop-turn.invariant in
    first_of (search rules, grind (arith, common_steps))
