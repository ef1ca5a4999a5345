use Rattle.view_json.proofs.Writing.{chained}
use Rattle.view_json.proofs.channel.channel_heading.Goals as goal

pub returns : goal.returns
returns c = (c.channel_name.ensures.0, chained _ _ _ _ _ c.number.ensures (chained _ _ _ _ _ c.key.ensures c.channel_name.ensures.1))
