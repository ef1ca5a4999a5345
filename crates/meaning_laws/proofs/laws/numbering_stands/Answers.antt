use Rattle.meaning_laws.proofs.Model.{model-stands}
use Rattle.meaning_laws.proofs.laws.numbering_stands.Goals as goal

pub returns : goal.returns
returns c = model-stands
