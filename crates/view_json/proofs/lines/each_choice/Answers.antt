use Rattle.view_json.proofs.Writing.{chained}
use Rattle.view_json.proofs.lines.each_choice.Goals as goal

pub returns : goal.returns
returns c =
    let all = c.add_choices.ensures in (
      all.0,
      all.1,
      chained _ _ _ _ _ c.key.ensures (chained _ _ _ _ _ c.begin_array.ensures (chained _ _ _ _ _ all.2 c.end_array.ensures)),
    )
