use Rattle.listed_values.proofs.Staying.{stays}
use Rattle.listed_values.proofs.laws.a_text_without_lists_stays.Goals as goal

pub returns : goal.returns
returns c = stays
