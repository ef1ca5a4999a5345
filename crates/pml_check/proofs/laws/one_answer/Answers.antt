use Rattle.pml_check.proofs.Least.{one_least, fit_has_none}
use Rattle.pml_check.proofs.laws.one_answer.Goals as goal

pub returns-clause-least : goal.returns-clause-least
returns-clause-least c = one_least

pub returns-clause-fits : goal.returns-clause-fits
returns-clause-fits c = fit_has_none
