use Rattle.run_start.proofs.Shapes.{sizes_now}
use Rattle.run_start.proofs.create.begin_youngest.Goals as goal

pub begin_variables-requires-clause-there : goal.begin_variables-requires-clause-there
begin_variables-requires-clause-there c = sizes_now _ _ c.args.slots.now c.in_ok-set_arguments.ensures.keeps c.requires.there
