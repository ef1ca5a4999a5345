use Rattle.std.proofs.Common.{rules, arith}
use Rattle.std.proofs.lemmas.Grind.{common_steps}
use Rattle.pml_expression.specs.Reading.{pick}
use Rattle.pml_syntax.specs.ReadingStatements as reading
use Rattle.pml_expression.proofs.Turns.{deeper}
use Rattle.pml_syntax.proofs.action.+run_within.Goals as goal

pub returns-then-not-sees : goal.returns-then-not-sees
unfolding reading.run_within pick
returns-then-not-sees t c =
    let e = deeper (λ n. reading.run_within c.args.depth n c.args.tokens.now) c.args.nested (omega arith) in
    rw e (first_of (search rules, grind (arith, common_steps)))
