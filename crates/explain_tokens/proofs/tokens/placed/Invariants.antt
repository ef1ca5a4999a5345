use Rattle.std.proofs.Common.{length}
use Rattle.explain_tokens.proofs.Reaching.{Reached}
use Rattle.explain_tokens.proofs.tokens.placed.Given as goal

abbrev pub invariant-loop-rest : goal.invariant-loop-rest
invariant-loop-rest l = Reached l.text l.tokens.items l.rest l.place l.fresh

abbrev pub decreases-loop-rest : goal.decreases-loop-rest
decreases-loop-rest l = length l.rest
