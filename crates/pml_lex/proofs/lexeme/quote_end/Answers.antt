use Rattle.std.proofs.Common.{arith, sym, ◌∙◌}
use Rattle.std.proofs.lemmas.Bool.Decides.{nat_tests}
use Rattle.pml_lex.proofs.Turns.{quote_turn, quote_none}
use Rattle.pml_lex.proofs.lexeme.quote_end.Goals as goal

pub returns-then-b-eq10-clause-value : goal.returns-then-b-eq10-clause-value
returns-then-b-eq10-clause-value c =
    let e = quote_turn c.args.text.now c.loop-end.end c.loop-end.escaped (omega arith) in
    grind (arith, nat_tests, e)

pub loop-end-preserved-then-escaped : goal.loop-end-preserved-then-escaped
loop-end-preserved-then-escaped c =
    let e = quote_turn c.args.text.now c.loop-end.end c.loop-end.escaped (omega arith) in
    (grind (arith, nat_tests, e), omega arith)

pub returns-then-b-eq34-clause-value : goal.returns-then-b-eq34-clause-value
returns-then-b-eq34-clause-value c =
    let e = quote_turn c.args.text.now c.loop-end.end c.loop-end.escaped (omega arith) in
    grind (arith, nat_tests, e)

pub loop-end-preserved : goal.loop-end-preserved
loop-end-preserved c =
    let e = quote_turn c.args.text.now c.loop-end.end c.loop-end.escaped (omega arith) in
    (grind (arith, nat_tests, e), omega arith)

pub returns-clause-value : goal.returns-clause-value
returns-clause-value c = sym (quote_none c.args.text.now c.loop-end.end c.loop-end.escaped (omega arith)) ∙ c.loop-end.invariant.0
