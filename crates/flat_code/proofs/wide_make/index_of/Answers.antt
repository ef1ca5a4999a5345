use Rattle.flat_code.proofs.Widening.{worth_index}
use Rattle.flat_code.proofs.wide_make.index_of.Goals as goal

pub returns : goal.returns
returns c = worth_index c.args.globals.now c.args.locals.now c.args.value.now c.in_ok-value.value c.in_ok-value.ensures
