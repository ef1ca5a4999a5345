use Rattle.std.proofs.Common.{arith, sym, ◌∙◌}
use Rattle.std.proofs.lemmas.Bool.Decides.{nat_tests}
use Rattle.pml_lex.proofs.Turns.{comment_turn, comment_none}
use Rattle.pml_lex.proofs.lexeme.comment_end.Goals as goal

pub returns-then-text-end-eq47-clause-value : goal.returns-then-text-end-eq47-clause-value
returns-then-text-end-eq47-clause-value c =
    let e = comment_turn c.args.text.now c.loop-end.end (omega arith) in
    grind (arith, nat_tests, e)

pub loop-end-preserved : goal.loop-end-preserved
loop-end-preserved c =
    let e = comment_turn c.args.text.now c.loop-end.end (omega arith) in
    (grind (arith, nat_tests, e), omega arith)

pub returns-clause-value : goal.returns-clause-value
returns-clause-value c = sym (comment_none c.args.text.now c.loop-end.end (omega arith)) ∙ c.loop-end.invariant.0
