use Rattle.std.proofs.Common.{drop, map}
use Rattle.common_offers.specs.Offers.{AreCommonOffers}
use Rattle.run_state.specs.Standing.{shows}
use Rattle.run_search.proofs.common.is_common_level.Given as goal

-- where the offers that are left are the same for every process, all are
abbrev pub invariant-loop-edge : goal.invariant-loop-edge
invariant-loop-edge l = AreCommonOffers (map (shows l.body) (drop l.edge-index l.edges)) → AreCommonOffers (map (shows l.body) l.edges)
