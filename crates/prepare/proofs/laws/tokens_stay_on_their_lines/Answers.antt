use Rattle.prepare.specs.Laws.{lined}
use Rattle.prepare.proofs.Lineup.{tokens_stand}
use Rattle.prepare.proofs.laws.tokens_stay_on_their_lines.Goals as goal

pub returns : goal.returns
returns c = λ text h. tokens_stand (lined text) h
