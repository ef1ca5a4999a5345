use Rattle.view_json.proofs.Fronts.{front_value}
use Rattle.view_json.proofs.laws.fronts_end_a_value.Goals as goal

pub returns : goal.returns
returns c = front_value
