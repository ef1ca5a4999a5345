use Rattle.pml_play.proofs.Playing.{rejected_check, is_ready}
use Rattle.pml_play.proofs.whole.model_of.Goals as goal

pub returns-in-Err-clause-err : goal.returns-in-Err-clause-err
returns-in-Err-clause-err c text is = rw c.of_check.ensures (rejected_check text c.args.tree c.in-Err.fault is c.in-Err.ensures.refused)

pub returns-in-Ok-clause-ok : goal.returns-in-Ok-clause-ok
returns-in-Ok-clause-ok c text is =
    is_ready text c.args.tree c.in-Ok.checked is c.in-Ok.ensures.fits c.in-Ok.ensures.model
