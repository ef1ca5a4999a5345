use Rattle.view_json.specs.Lines.{dealt}
use Rattle.view_json.proofs.Writing.{chained}
use Rattle.view_json.proofs.choice.dying.Goals as goal

pub returns : goal.returns
returns c = (
  record { deals = dealt c.args.done.now; words = c.effect_of.ensures.0 },
  chained _ _ _ _ _ c.begin_object.ensures
      (chained _ _ _ _ _ (chained _ _ _ _ _ c.ending.ensures (chained _ _ _ _ _ c.transfer.ensures c.effect_of.ensures.1)) c.end_object.ensures),
)
