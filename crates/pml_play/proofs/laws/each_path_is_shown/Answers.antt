use Rattle.pml_play.proofs.Shown.{text_shows_each}
use Rattle.pml_play.proofs.laws.each_path_is_shown.Goals as goal

pub returns : goal.returns
returns c text options model session is = text_shows_each is.0 is.1
