use Rattle.std.proofs.Common.{arith}
use Rattle.model_verdicts.proofs.Moved.{moved_behind}
use Rattle.model_verdicts.proofs.alike.are_moved.Goals as goal

-- src/alike.rt:54:5
pub loop-i-preserved : goal.loop-i-preserved
loop-i-preserved c =
    moved_behind c.args.exchange.places.now c.args.exchange.before c.args.exchange.then c.args.before.now c.args.then.now c.loop-i.i _ _ c.loop-i-test.true (omega (arith, c.loop-i-test.true, c.if-before-then.false)) c.loop-i.invariant c.if-not-is_moved_name.ensures
