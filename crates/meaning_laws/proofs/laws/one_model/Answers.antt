use Rattle.meaning_laws.proofs.Model.{one-model}
use Rattle.meaning_laws.proofs.laws.one_model.Goals as goal

pub returns : goal.returns
returns c = one-model
