use Rattle.session.proofs.Courses.{showing_changes_nothing}
use Rattle.session.proofs.laws.showing_changes_nothing.Goals as goal

pub returns : goal.returns
returns c start = showing_changes_nothing _
