use Rattle.flat_code.proofs.Widening.{leads_to_cell}
use Rattle.flat_code.proofs.wide_make.wide_cell.Goals as goal

pub returns-in-Some : goal.returns-in-Some
returns-in-Some c = leads_to_cell c.args.globals.now c.args.locals.now c.args.target.now c.in-Some.cell c.in-Some.ensures
