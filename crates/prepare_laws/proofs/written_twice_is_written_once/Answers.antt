use Rattle.prepare_laws.proofs.Twice.{twice}
use Rattle.prepare_laws.proofs.written_twice_is_written_once.Goals as goal

pub returns : goal.returns
returns c = twice
