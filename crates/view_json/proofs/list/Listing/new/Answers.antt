use Rattle.std.proofs.Common.{refl}
use Rattle.view_json.proofs.Listed.{lists_none}
use Rattle.view_json.proofs.list.Listing.new.Goals as goal

pub returns : goal.returns
returns c = lists_none _ c.new.ensures refl
