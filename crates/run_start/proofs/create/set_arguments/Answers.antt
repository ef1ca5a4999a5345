use Rattle.std.proofs.Common.{◌∙◌, sym, arith}
use Rattle.run_start.specs.Shown.{shown}
use Rattle.run_start.proofs.Creating.{all_set}
use Rattle.run_start.proofs.create.set_arguments.Goals as goal

pub returns-clause-value : goal.returns-clause-value
returns-clause-value c =
    sym (all_set c.args.slots.now c.args.arguments.now c.loop-variable.variable (shown c.loop-variable.started) (omega (arith, c.min-count.ensures, c.loop-variable-test.false)))
    ∙ c.loop-variable.invariant.same
