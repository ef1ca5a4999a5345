use Rattle.pml_play.proofs.Playing.{rejected_plays}
use Rattle.pml_play.proofs.whole.stages.Goals as goal

pub returns-in-Err-clause-part : goal.returns-in-Err-clause-part
returns-in-Err-clause-part g c = rejected_plays _ _ _ _ _ c.in-Err.rejection c.reject.result c.requires c.in-Err.ensures.err c.reject.ensures.text

pub returns-clause-part : goal.returns-clause-part
returns-clause-part g c =
    rejected_plays _ _ _ _ _ c.in-Err-checked_of.rejection c.reject-in-Err-checked_of.result c.requires (c.in-Err-checked_of.ensures.err c.args.text.now (rw c.deref.ensures.value c.in-Ok.ensures.ok)) c.reject-in-Err-checked_of.ensures.text
