use Rattle.std.proofs.Common.{◌+◌, arith}
use Rattle.run_search.proofs.Together.{both_there}
use Rattle.run_search.proofs.common.are_four_at.Goals as goal

pub returns : goal.returns
returns c is =
    both_there c.args.live.now.state c.args.seat c.args.at (c.args.at + 2) (c.args.at + 4) (c.args.at + 2 + 2)
    c.are_two_at-one.result c.are_two_at-next.result (omega arith) c.are_two_at-one.ensures c.are_two_at-next.ensures is
