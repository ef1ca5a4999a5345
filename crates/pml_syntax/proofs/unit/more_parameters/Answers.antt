use Rattle.std.proofs.Common.{rules, arith}
use Rattle.std.proofs.lemmas.Grind.{common_steps}
use Rattle.pml_syntax.specs.ReadingUnits as reading
use Rattle.pml_expression.specs.Reading.{and_then, pick}
use Rattle.pml_expression.proofs.Turns.{one_more}
use Rattle.pml_syntax.proofs.unit.more_parameters.Goals as goal

pub loop-turn-preserved : goal.loop-turn-preserved
unfolding reading.parameters_from and_then pick
loop-turn-preserved c =
    let e = one_more (λ n. reading.parameters_from n c.loop-turn.opener c.loop-turn.found c.loop-turn.tokens) c.left-turn-end.result c.loop-turn._turn c.loop-turn-test.true c.loop-turn.invariant in
    first_of (search rules, grind (arith, common_steps))

pub returns-in_err-v : goal.returns-in_err-v
unfolding reading.parameters_from and_then pick
returns-in_err-v c =
    let e = one_more (λ n. reading.parameters_from n c.loop-turn.opener c.loop-turn.found c.loop-turn.tokens) c.left-turn-end.result c.loop-turn._turn c.loop-turn-test.true c.loop-turn.invariant in
    first_of (search rules, grind (arith, common_steps))
