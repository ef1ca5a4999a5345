use Rattle.flat_code.proofs.Widening.{wide_sets}
use Rattle.flat_code.proofs.wide_make.wide_set.Goals as goal

pub returns : goal.returns
returns c = wide_sets c.args.globals.now c.args.locals.now c.args.target.now c.args.value.now c.in_ok-word.word c.in_ok-word.cell c.in_ok-value.value c.in_ok-word.ensures c.in_ok-value.ensures
