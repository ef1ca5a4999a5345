use Rattle.flat_code.proofs.Widening.{wide_read}
use Rattle.flat_code.proofs.wide_make.wide_operand.Goals as goal

pub returns-in-Some : goal.returns-in-Some
returns-in-Some c = rw c.in-Read.is (wide_read c.args.globals.now c.args.locals.now c.in-Read.target c.in-Some.cell c.in-Some.ensures)
