use Rattle.prepare_laws.proofs.Twice.{written_once}
use Rattle.prepare_laws.proofs.what_is_written_is_written_once.Goals as goal

pub returns : goal.returns
returns c = written_once
