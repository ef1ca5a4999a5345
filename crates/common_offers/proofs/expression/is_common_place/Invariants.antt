use Rattle.std.proofs.Common.{drop}
use Rattle.common_offers.specs.Alike.{AreCommonTurns}
use Rattle.common_offers.proofs.expression.is_common_place.Given as goal

-- where the turns that are left lead each process as far, all do
abbrev pub invariant-loop-turn : goal.invariant-loop-turn
invariant-loop-turn l = AreCommonTurns (drop l.turn-index l.turn-items) → AreCommonTurns l.turn-items
