use Rattle.pml_play.proofs.Changing.{rejected_converts}
use Rattle.pml_play.proofs.converting.convert_checked.Goals as goal

pub returns-in-Ok : goal.returns-in-Ok
returns-in-Ok g c = record { part = λ text ready. c.convert_world.ensures.part text (c.in-Ok.ensures.ok text ready) }

pub returns-in-Err : goal.returns-in-Err
returns-in-Err g c = record { part = λ text ready. rw c.end_rejected.ensures (rejected_converts text c.args.options.now c.in-Err.rejection _ (c.in-Err.ensures.err text ready)) }
