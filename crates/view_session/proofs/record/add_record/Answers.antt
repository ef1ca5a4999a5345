use Rattle.view_session.proofs.Recording.{chain, record_more}
use Rattle.view_session.proofs.record.add_record.Goals as goal

pub loop-leg-preserved : goal.loop-leg-preserved
loop-leg-preserved c =
    chain _ _ _ _ _ _ c.loop-leg.invariant c.add_leg.ensures (record_more c.loop-leg.leg-index c.args.legs.now _ c.loop-leg-test.true)
