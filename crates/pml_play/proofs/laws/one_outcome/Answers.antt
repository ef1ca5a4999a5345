use Rattle.pml_play.proofs.Outcomes.{one_refusal, no_model, one_model}
use Rattle.pml_play.proofs.laws.one_outcome.Goals as goal

pub returns-clause-refusal : goal.returns-clause-refusal
returns-clause-refusal c text a b m n = one_refusal

pub returns-clause-either : goal.returns-clause-either
returns-clause-either c text a m lossy model = no_model

pub returns-clause-model : goal.returns-clause-model
returns-clause-model c text lossy a b = one_model
