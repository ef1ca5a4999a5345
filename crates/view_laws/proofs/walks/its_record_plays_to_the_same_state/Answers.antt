use Rattle.view_laws.proofs.Played.{found_path, session_goes}
use Rattle.view_laws.proofs.walks.its_record_plays_to_the_same_state.Goals as goal

pub returns : goal.returns
returns c text w o session h = session_goes text w o session h (found_path w h.is_walk)
