use Rattle.walk_laws.proofs.Alike.{at_first}
use Rattle.walk_laws.proofs.restart_shows_the_first_state.Goals as goal

pub returns : goal.returns
returns c w h f = at_first w h f
