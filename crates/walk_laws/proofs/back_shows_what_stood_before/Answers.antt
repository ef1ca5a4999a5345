use Rattle.walk_laws.proofs.Alike.{back_alike}
use Rattle.walk_laws.proofs.back_shows_what_stood_before.Goals as goal

pub returns : goal.returns
returns c v w k hv hw b = back_alike v w k hv hw b
