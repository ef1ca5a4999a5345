use Rattle.std.proofs.Common.{◌+◌, arith}
use Rattle.run_search.proofs.Together.{both_there}
use Rattle.run_search.proofs.common.are_two_at.Goals as goal

pub returns : goal.returns
returns c is =
    both_there c.args.live.now.state c.args.seat c.args.at (c.args.at + 1) (c.args.at + 2) (c.args.at + 1 + 1)
    c.is_at-one.result c.is_at-next.result (omega arith) c.is_at-one.ensures c.is_at-next.ensures is
