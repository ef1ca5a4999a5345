use Rattle.std.proofs.Common.{rules, refl}
use Rattle.session.proofs.Numbering.{around}
use Rattle.session.proofs.step_numbers.StepNumbers.around.Goals as goal

pub invariant_of-result : goal.invariant_of-result
invariant_of-result c = around c.args.n c.write_step-begin.result c.write_step-begin.new.words _ (search rules) c.write_step-begin.ensures.begin c.write_step-begin.ensures.words refl
