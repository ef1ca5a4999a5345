use Rattle.std.proofs.Common.{◌+◌, arith}
use Rattle.run_search.proofs.Together.{both_there}
use Rattle.run_search.proofs.common.are_eight_at.Goals as goal

pub returns : goal.returns
returns c is =
    both_there c.args.live.now.state c.args.seat c.args.at (c.args.at + 4) (c.args.at + 8) (c.args.at + 4 + 4)
    c.are_four_at-one.result c.are_four_at-next.result (omega arith) c.are_four_at-one.ensures c.are_four_at-next.ensures is
