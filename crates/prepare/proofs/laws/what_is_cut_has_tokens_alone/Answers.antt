use Rattle.prepare.proofs.Alone.{tokens_alone}
use Rattle.prepare.proofs.laws.what_is_cut_has_tokens_alone.Goals as goal

pub returns : goal.returns
returns c = λ text ts h. tokens_alone text ts h.are_cut h.all_kept
