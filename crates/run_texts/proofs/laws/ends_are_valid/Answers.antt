use Rattle.run_texts.proofs.Ending as lemmas
use Rattle.run_texts.proofs.laws.ends_are_valid.Goals as goal

pub returns : goal.returns
returns _ = lemmas.decides
