use Rattle.pml_play.proofs.Changing.{law, rejected_converts}
use Rattle.pml_play.proofs.converting.convert.Goals as goal

pub returns-in-Err-clause-left : goal.returns-in-Err-clause-left
returns-in-Err-clause-left g c = g.met.S.Source.some_left c.args.devices.now.source

pub returns-in-Err-clause-part : goal.returns-in-Err-clause-part
returns-in-Err-clause-part g c = rw c.end_rejected.ensures (rejected_converts c.args.text.now c.args.options.now c.in-Err.rejection _ c.in-Err.ensures.err)

pub returns-in-Err-clause-law : goal.returns-in-Err-clause-law
returns-in-Err-clause-law g c = law c.args.text.now c.args.options.now

pub returns-in-Ok-checked_of-clause-left : goal.returns-in-Ok-checked_of-clause-left
returns-in-Ok-checked_of-clause-left g c = g.met.S.Source.some_left c.convert_checked.new.devices.source

pub returns-in-Ok-checked_of-clause-law : goal.returns-in-Ok-checked_of-clause-law
returns-in-Ok-checked_of-clause-law g c = law c.args.text.now c.args.options.now

pub returns-clause-left : goal.returns-clause-left
returns-clause-left g c = g.met.S.Source.some_left c.args.devices.now.source

pub returns-clause-part : goal.returns-clause-part
returns-clause-part g c =
    rw c.end_rejected-in-Err-checked_of.ensures (rejected_converts c.args.text.now c.args.options.now c.in-Err-checked_of.rejection _ (c.in-Err-checked_of.ensures.err c.args.text.now (rw c.deref.ensures.value c.in-Ok.ensures.ok)))

pub returns-clause-law : goal.returns-clause-law
returns-clause-law g c = law c.args.text.now c.args.options.now
