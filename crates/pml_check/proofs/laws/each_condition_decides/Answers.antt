use Rattle.pml_check.proofs.Deciding.{either}
use Rattle.pml_check.proofs.Standing.{not_both}
use Rattle.pml_check.proofs.laws.each_condition_decides.Goals as goal

pub returns-clause-either : goal.returns-clause-either
returns-clause-either c = either

pub returns-clause-apart : goal.returns-clause-apart
returns-clause-apart c = not_both
