use Rattle.text_parts.proofs.Leading.{all_lead_there}
use Rattle.text_parts.proofs.laws.numbers_lead_to_places.Goals as goal

pub returns : goal.returns
returns c = all_lead_there
