use Rattle.std.proofs.Common.{arith, sym, ◌∙◌}
use Rattle.std.proofs.lemmas.Bool.Decides.{nat_tests}
use Rattle.prepare.proofs.Strings.{string_stretch, string_none}
use Rattle.prepare.proofs.stretches.string_end.Goals as goal

pub loop-end-preserved-then-escaped : goal.loop-end-preserved-then-escaped
loop-end-preserved-then-escaped c =
    let e = string_stretch c.args.text.now c.loop-end.end c.loop-end.escaped (omega arith) in
    record { same = grind (arith, nat_tests, e); within = omega arith; behind = omega arith }

pub returns-then-b-eq34-clause-value : goal.returns-then-b-eq34-clause-value
returns-then-b-eq34-clause-value c =
    let e = string_stretch c.args.text.now c.loop-end.end c.loop-end.escaped (omega arith) in
    grind (arith, nat_tests, e)

pub loop-end-preserved : goal.loop-end-preserved
loop-end-preserved c =
    let e = string_stretch c.args.text.now c.loop-end.end c.loop-end.escaped (omega arith) in
    record { same = grind (arith, nat_tests, e); within = omega arith; behind = omega arith }

pub returns-clause-value : goal.returns-clause-value
returns-clause-value c = sym (string_none c.args.text.now c.loop-end.end c.loop-end.escaped (omega arith)) ∙ c.loop-end.invariant.same
