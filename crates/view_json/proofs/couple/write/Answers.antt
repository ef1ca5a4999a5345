use Rattle.view_json.specs.Choices.{actor}
use Rattle.view_json.specs.Lines.{dealing}
use Rattle.view_json.specs.Objects.{detail}
use Rattle.view_json.proofs.Writing.{chained}
use Rattle.view_json.proofs.couple.write.Goals as goal

pub returns : goal.returns
returns c = λ late.
    let deal = c.requires.deal in (
      record { deals = deal.deals; words = deal.words },
      chained _ _ _ _ _ c.begin_object.ensures
          (chained _ _ _ _ _
          (chained _ _ _ _ _ (c.join.ensures.known (actor c.args.live.now.state c.args.sender.now.pick) (λ calm. (c.requires.sender calm).written))
          (chained _ _ _ _ _ (c.join-2.ensures.known _ deal.done) (chained _ _ _ _ _ c.add_partner.ensures (c.join-3.ensures.known _ deal.effect))))
          c.end_object.ensures),
    )
