use Rattle.promela_run.specs.World.{rules}
use Rattle.pml_play.proofs.EachPath.{text_plays_each, just_path}
use Rattle.pml_play.proofs.laws.each_path_is_played.Goals as goal

pub returns-clause-first : goal.returns-clause-first
returns-clause-first c text options model part is = text_plays_each is.0 is.1

pub returns-clause-just : goal.returns-clause-just
returns-clause-just c text options model part is = just_path rules options.limit model part (text_plays_each is.0 is.1)
