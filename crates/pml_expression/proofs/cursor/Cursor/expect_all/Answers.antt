use Rattle.std.proofs.Common.{rules, arith}
use Rattle.std.proofs.lemmas.Grind.{common_steps}
use Rattle.pml_expression.specs.Reading.{expect_all, and_then}
use Rattle.pml_expression.proofs.Runs.{at_turn, one_taken, all_taken}
use Rattle.pml_expression.proofs.cursor.Cursor.expect_all.Goals as goal

pub returns-in_err-expect : goal.returns-in_err-expect
unfolding expect_all and_then
returns-in_err-expect c =
    let e = at_turn c.args.kinds.now c.loop-kind.kind-index c.loop-kind.self _ (omega arith) c.loop-kind.invariant in
    first_of (search rules, grind (arith, common_steps))

pub loop-kind-preserved : goal.loop-kind-preserved
loop-kind-preserved c = one_taken c.args.kinds.now c.loop-kind.kind-index c.loop-kind.self _ _ (omega arith) c.loop-kind.invariant c.in_ok-expect.ensures

pub returns : goal.returns
returns c = all_taken c.args.kinds.now c.loop-kind.kind-index c.loop-kind.self _ (omega arith) c.loop-kind.invariant
