use Rattle.view_laws.proofs.Played.{found_path, has_path}
use Rattle.view_laws.proofs.walks.a_walk_is_a_path.Goals as goal

pub returns : goal.returns
returns c w h = has_path w (found_path w h)
