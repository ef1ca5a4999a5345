use Rattle.prepare.proofs.Needs.{separators_alone}
use Rattle.prepare.proofs.laws.what_is_cut_wants_separators_alone.Goals as goal

pub returns : goal.returns
returns c = λ text ts h nothing. separators_alone text ts h.are_cut h.all_kept nothing
