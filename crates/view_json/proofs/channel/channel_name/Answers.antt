use Rattle.std.proofs.Common.{Some}
use Rattle.view_json.proofs.channel.channel_name.Goals as goal

pub returns-then-add_channel_name : goal.returns-then-add_channel_name
returns-then-add_channel_name c = (Some _, c.whole.ensures.written)
