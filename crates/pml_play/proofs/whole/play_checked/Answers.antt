use Rattle.pml_play.proofs.Playing.{rejected_plays, model_plays}
use Rattle.pml_play.proofs.whole.play_checked.Goals as goal

pub returns-in-Ok-clause-part : goal.returns-in-Ok-clause-part
returns-in-Ok-clause-part g c text ready = model_plays _ _ _ _ _ c.run_world.result _ (c.in-Ok.ensures.ok text ready) c.run_world.ensures.part

pub returns-in-Err-clause-part : goal.returns-in-Err-clause-part
returns-in-Err-clause-part g c text ready = rejected_plays _ _ _ _ _ c.in-Err.rejection c.reject.result c.requires (c.in-Err.ensures.err text ready) c.reject.ensures.text
