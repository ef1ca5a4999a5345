use Rattle.flat_code.proofs.Standing.{local_cell, global_cell}
use Rattle.flat_code.proofs.make.cell_of.Goals as goal

pub returns-in-Some : goal.returns-in-Some
returns-in-Some c = local_cell c.args.globals.now c.args.locals.now c.args.target.now c.in_ok-cell.cell c.in-Some.at c.in_ok-cell.ensures c.if-target.true c.in-Some.ensures.0 c.in-Some.ensures.1

pub returns-in-Some-cell : goal.returns-in-Some-cell
returns-in-Some-cell c = global_cell c.args.globals.now c.args.locals.now c.args.target.now c.in_ok-cell.cell c.in-Some-cell.at c.in_ok-cell.ensures c.if-target.false c.in-Some-cell.ensures.0 c.in-Some-cell.ensures.1
