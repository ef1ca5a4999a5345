use Rattle.view_json.proofs.Waits.{waits_more}
use Rattle.view_json.proofs.process.waits.Goals as goal

pub loop-one-preserved : goal.loop-one-preserved
loop-one-preserved c =
    waits_more c.args.live.now.state c.args.process c.loop-one.one-index c.args.waits.now _ _ _ _ c.loop-one-test.true c.loop-one.invariant
    c.wait.ensures.0 c.wait.ensures.1
