use Rattle.std.proofs.Common.{arith}
use Rattle.std.proofs.lemmas.Grind.{common_steps}
use Rattle.promela_session.specs.Lines.{number_up_to}
use Rattle.session.proofs.choice.parse_digit.Goals as goal

pub returns-then-not-is_digit-clause-value : goal.returns-then-not-is_digit-clause-value
unfolding number_up_to
returns-then-not-is_digit-clause-value c = grind (arith, common_steps)

pub returns-then-n-eq0-clause-value : goal.returns-then-n-eq0-clause-value
unfolding number_up_to
returns-then-n-eq0-clause-value c = grind (arith, common_steps)

pub returns-clause-value : goal.returns-clause-value
unfolding number_up_to
returns-clause-value c = grind (arith, common_steps)
