use Rattle.std.proofs.Common.{rules, arith}
use Rattle.std.proofs.lemmas.Grind.{common_steps}
use Rattle.pml_expression.specs.Reading as expressions
use Rattle.pml_token.specs.declared.token.Kind.TheVariants as k
use Rattle.pml_expression.specs.Reading.{and_then, pick}
use Rattle.pml_expression.proofs.Turns.{one_more}
use Rattle.pml_syntax.proofs.unit.name_list.Goals as goal

pub loop-turn-preserved : goal.loop-turn-preserved
unfolding expressions.list_from and_then pick
loop-turn-preserved c =
    let e = one_more (λ n. expressions.list_from (expressions.expect k.Name) n c.loop-turn.found c.loop-turn.tokens) c.left-turn-end.result c.loop-turn._turn c.loop-turn-test.true c.loop-turn.invariant in
    first_of (search rules, grind (arith, common_steps))
