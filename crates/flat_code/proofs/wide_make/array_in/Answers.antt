use Rattle.flat_code.proofs.Widening.{local_cells, global_cells}
use Rattle.flat_code.proofs.wide_make.array_in.Goals as goal

pub returns-in-Some : goal.returns-in-Some
returns-in-Some c = local_cells c.args.globals.now c.args.locals.now c.args.target.now c.args.offset c.args.count c.in-Some.at c.if-target.true c.in-Some.ensures

pub returns-in-Some-first_of : goal.returns-in-Some-first_of
returns-in-Some-first_of c = global_cells c.args.globals.now c.args.locals.now c.args.target.now c.args.offset c.args.count c.in-Some-first_of.at c.if-target.false c.in-Some-first_of.ensures
