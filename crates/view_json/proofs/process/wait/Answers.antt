use Rattle.view_json.proofs.Writing.{chained}
use Rattle.view_json.proofs.process.wait.Goals as goal

pub returns : goal.returns
returns c = (
  _,
  chained _ _ _ _ _ c.begin_object.ensures
      (chained _ _ _ _ _ (chained _ _ _ _ _ c.waits_at.ensures c.because.ensures) c.end_object.ensures),
)
