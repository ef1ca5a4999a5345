use Rattle.std.proofs.Common.{◌≡◌, length}
use Rattle.called_macros.specs.Origins.{token_at}
use Rattle.called_macros.proofs.origin.token_at.Given as goal

abbrev pub invariant-loop-rest : goal.invariant-loop-rest
invariant-loop-rest l = token_at l.left l.rest ≡ token_at l.onset l.stretches

abbrev pub decreases-loop-rest : goal.decreases-loop-rest
decreases-loop-rest l = length l.rest
