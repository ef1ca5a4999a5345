use Rattle.std.proofs.Common.{drop}
use Rattle.common_offers.proofs.Alike.{EachIsCommon}
use Rattle.common_offers.proofs.expression.are_common.Given as goal

-- where each process asks the same by the arguments that are left, it does by all
abbrev pub invariant-loop-want : goal.invariant-loop-want
invariant-loop-want l = EachIsCommon (drop l.want-index l.wants) → EachIsCommon l.wants
