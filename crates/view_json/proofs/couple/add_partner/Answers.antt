use Rattle.view_json.specs.Choices.{actor}
use Rattle.view_json.proofs.Writing.{chained}
use Rattle.view_json.proofs.couple.add_partner.Goals as goal

pub returns : goal.returns
returns c =
    chained _ _ _ _ _ c.key.ensures
    (chained _ _ _ _ _ c.begin_object.ensures
    (chained _ _ _ _ _ (c.join.ensures.known (actor c.args.live.now.state c.args.receiver.now.pick) (λ calm. (c.requires calm).written)) c.end_object.ensures))
