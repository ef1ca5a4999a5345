use Rattle.view_json.proofs.Run.{longer_walks_begin_so}
use Rattle.view_json.proofs.laws.longer_walks_begin_so.Goals as goal

pub returns : goal.returns
returns c = longer_walks_begin_so
