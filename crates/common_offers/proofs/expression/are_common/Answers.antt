use Rattle.std.proofs.Common.{◌≤◌, length, arith}
use Rattle.common_offers.proofs.Alike.{wants_common, no_wants}
use Rattle.common_offers.proofs.expression.are_common.Goals as goal

pub returns : goal.returns
returns c = λ e.
    let over : length c.args.wants.now ≤ c.loop-want.want-index = omega (arith, c.loop-want-test.false) in
    wants_common c.args.wants.now (c.loop-want.invariant (no_wants c.args.wants.now c.loop-want.want-index over))
