use Rattle.run_start.proofs.Holding.{channels_begin, channels_numbered}
use Rattle.run_start.proofs.law.numbering.Goals as goal

pub returns-clause-made : goal.returns-clause-made
returns-clause-made c = channels_begin

pub returns-clause-numbers : goal.returns-clause-numbers
returns-clause-numbers c = channels_numbered
