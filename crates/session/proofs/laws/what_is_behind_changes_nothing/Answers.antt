use Rattle.session.proofs.Behind.{what_is_behind_changes_nothing}
use Rattle.session.proofs.laws.what_is_behind_changes_nothing.Goals as goal

pub returns : goal.returns
returns c start = what_is_behind_changes_nothing _
