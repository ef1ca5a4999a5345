use Rattle.std.proofs.Common.{◌+◌}
use Rattle.run_search.proofs.Together.{joined_there}
use Rattle.run_search.proofs.common.is_there.Goals as goal

pub returns : goal.returns
returns c is = joined_there c.args.live.now.state c.args.seat c.args.first c.args.at (c.args.at + 1) c.requires.before (c.is_at.ensures is)
