use Rattle.flat_code.proofs.Standing.{read}
use Rattle.flat_code.proofs.make.operand.Goals as goal

pub returns-in-Some : goal.returns-in-Some
returns-in-Some c = rw (c.in-Read.is, c.held.ensures) (read c.args.globals.now c.args.locals.now c.in-Read.target c.in-Some.cell c.in-Some.ensures)
