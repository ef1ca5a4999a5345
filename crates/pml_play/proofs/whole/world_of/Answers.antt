use Rattle.pml_play.proofs.Playing.{is_model}
use Rattle.pml_play.proofs.whole.world_of.Goals as goal

pub returns-in-Ok-clause-ok : goal.returns-in-Ok-clause-ok
returns-in-Ok-clause-ok c text ready = is_model text c.args.checked.now c.args.lossy c.in-Ok.world ready c.in-Ok.ensures
