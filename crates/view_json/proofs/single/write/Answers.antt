use Rattle.view_json.specs.Lines.{dealt}
use Rattle.view_json.specs.Choices.{actor}
use Rattle.view_json.proofs.Writing.{chained}
use Rattle.view_json.proofs.single.write.Goals as goal

pub returns : goal.returns
returns c = λ late. (
  record { deals = dealt c.args.done.now; words = c.effect_of.ensures.0 },
  chained _ _ _ _ _ c.begin_object.ensures
      (chained _ _ _ _ _
      (chained _ _ _ _ _ (c.join.ensures.known (actor c.args.live.now.state c.args.first.now.pick) (λ calm. (c.requires calm).written)) (chained _ _ _ _ _ c.transfer.ensures c.effect_of.ensures.1))
      c.end_object.ensures),
)
