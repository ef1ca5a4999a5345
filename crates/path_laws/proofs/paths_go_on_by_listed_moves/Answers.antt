use Rattle.path_laws.proofs.GoingOn.{go_on_by_moves}
use Rattle.path_laws.proofs.paths_go_on_by_listed_moves.Goals as goal

pub returns : goal.returns
returns g c = go_on_by_moves _
