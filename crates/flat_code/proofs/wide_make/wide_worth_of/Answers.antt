use Rattle.flat_code.proofs.Widening.{wide_plain, wide_pair}
use Rattle.flat_code.proofs.wide_make.wide_worth_of.Goals as goal

pub returns-in-Binary : goal.returns-in-Binary
returns-in-Binary c = rw c.in-Binary.is (wide_pair c.args.globals.now c.args.locals.now c.in-Binary.op c.in-Binary.a c.in-Binary.b c.in_ok-a.a c.in_ok-b.b (rw c.get.ensures at c.in_ok-a.ensures) (rw c.get-in-Binary.ensures at c.in_ok-b.ensures))

pub returns : goal.returns
returns c = wide_plain c.args.globals.now c.args.locals.now c.args.value.now c.in_ok-a-2.a c.in_ok-a-2.ensures
