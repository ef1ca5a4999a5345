use Rattle.view_json.proofs.Writing.{chained}
use Rattle.view_json.proofs.channel.channel.Goals as goal

pub returns : goal.returns
returns c = (
  c.channel_heading.ensures.0,
  chained _ _ _ _ _ c.begin_object.ensures
      (chained _ _ _ _ _ (chained _ _ _ _ _ c.channel_heading.ensures.1 c.contents_at.ensures) c.end_object.ensures),
)
