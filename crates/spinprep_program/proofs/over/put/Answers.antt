use Rattle.std.proofs.Common.{subst, sym, arith, length, ◌≡◌}
use Rattle.std.proofs.lemmas.Bool.Decides.{nat_tests}
use Rattle.spinprep_program.proofs.Given.{whole_rest, Put, put_none, put_kept, put_more, put_all, put_begun}
use Rattle.spinprep_program.proofs.over.put.Goals as goal

pub loop-stretch-init : goal.loop-stretch-init
loop-stretch-init g c = put_none (g.W.Write.contents c.args.out.now) c.args.bytes.now

pub returns-in-Ok-clause-whole : goal.returns-in-Ok-clause-whole
returns-in-Ok-clause-whole g c =
    let none : length c.loop-stretch.rest.now ≡ 0 = grind (arith, nat_tests, c.if-is_empty.true, c.is_empty.ensures) in
    put_all (put_kept (g.W.Write.contents c.flush.new.self) c.loop-stretch.invariant c.flush.ensures.bytes) none

pub returns-in-Err-clause-begun : goal.returns-in-Err-clause-begun
returns-in-Err-clause-begun g c = put_begun (put_kept (g.W.Write.contents c.flush.new.self) c.loop-stretch.invariant c.flush.ensures.bytes)

pub returns-clause-begun : goal.returns-clause-begun
returns-clause-begun g c = put_begun c.loop-stretch.invariant

pub loop-stretch-preserved : goal.loop-stretch-preserved
loop-stretch-preserved g c =
    let rest = c.loop-stretch.rest.now in
    let n = c.in-Some.count in
    subst (Put (g.W.Write.contents c.args.out.now) (g.W.Write.contents c.some_taken.new.out) c.args.bytes.now) (sym (whole_rest n rest)) (put_more (g.W.Write.contents c.some_taken.new.out) n c.loop-stretch.invariant c.in-Some.ensures.took)
