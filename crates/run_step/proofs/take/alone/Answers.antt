use Rattle.std.proofs.Common.{rules, ◌≡◌, ◌∙◌, ap, Err}
use Rattle.promela_run.specs.World.{Running}
use Rattle.run_step.specs.Taking.{IsOffer}
use Rattle.run_step.proofs.Taking.{joined_body, followed, stops_before, goes_on}
use Rattle.run_step.proofs.take.alone.Goals as goal
use Rattle.run_search.specs.Lifted.{moved}

pub returns-in_err-take_offer-clause-value : goal.returns-in_err-take_offer-clause-value
returns-in_err-take_offer-clause-value c =
    let h : IsOffer c.args.live.now.state c.args.pick.now c.in-Some.offer = c.in-Some.ensures.some in
    let is : c.from_residual.result ≡ Err c.in_err-take_offer.field-0.0 = search rules in
    rw (is, h.is) (stops_before _ (moved c.args.pick.now.process h.offer) c.in_err-take_offer.field-0.0 c.take_offer.new.live.state c.take_offer.new.live.state c.args.text.now.items c.take_offer.new.text.items (c.in_err-take_offer.ensures.value h.offer h.is))

pub returns-clause-value : goal.returns-clause-value
returns-clause-value c =
    let h : IsOffer c.args.live.now.state c.args.pick.now c.in-Some.offer = c.in-Some.ensures.some in
    let goes = followed c.args.live.now.state c.take_offer.new.live.state c.args.pick.now c.in-Some.offer h (joined_body c.args.live.now.state c.take_offer.new.live.state c.args.pick.now.process c.in_ok-take_offer.ensures.grows.joins h.there) in
    rw (h.is)
    (goes_on _ c.args.pick.now.process h.offer tt c.take_offer.new.live.state c.follow.new.self.state c.args.text.now.items c.take_offer.new.text.items (c.in_ok-take_offer.ensures.value h.offer h.is)
    (ap (λ (l : Running). l.state) c.follow.ensures ∙ goes))
