use Rattle.std.proofs.Common.{rules, ◌≤◌, length, subst, arith}
use Rattle.common_offers.specs.Offers.{IsCommonOffer}
use Rattle.run_search.proofs.Together.{also_offer, no_offers}
use Rattle.run_search.proofs.common.is_common_level.Goals as goal

pub loop-edge-preserved : goal.loop-edge-preserved
loop-edge-preserved c =
    also_offer c.args.body.now c.args.edges.now c.loop-edge.edge-index _ (search rules)
    (subst IsCommonOffer c.basic.ensures (c.is_common_offer.ensures c.if-not-is_common_offer.false)) c.loop-edge.invariant

pub returns : goal.returns
returns c = λ e.
    let over : length c.args.edges.now ≤ c.loop-edge.edge-index = omega (arith, c.loop-edge-test.false) in
    c.loop-edge.invariant (no_offers c.args.body.now c.args.edges.now c.loop-edge.edge-index over)
