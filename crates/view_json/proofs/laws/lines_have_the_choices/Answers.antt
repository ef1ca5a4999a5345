use Rattle.view_json.proofs.Asked.{lines_have_the_choices}
use Rattle.view_json.proofs.laws.lines_have_the_choices.Goals as goal

pub returns : goal.returns
returns c = lines_have_the_choices
