use Rattle.view_json.proofs.Writing.{chained}
use Rattle.view_json.proofs.process.standing.Goals as goal

pub returns : goal.returns
returns c is =
    let all = c.all_of.ensures is in (
      all.0,
      all.1,
      chained _ _ _ _ _ c.begin_object.ensures
          (chained _ _ _ _ _ c.place_of.ensures
          (chained _ _ _ _ _ c.key.ensures
          (chained _ _ _ _ _ c.begin_array.ensures
          (chained _ _ _ _ _ all.2 c.end_array.ensures)))),
    )
