use Rattle.std.proofs.Common.{◌≡◌, length}
use Rattle.prepared.specs.Given.{goes_on}
use Rattle.prepared.proofs.given.goes_on.Given as goal

abbrev pub invariant-loop-rest : goal.invariant-loop-rest
invariant-loop-rest l = goes_on l.bytes ≡ goes_on l.rest

abbrev pub decreases-loop-rest : goal.decreases-loop-rest
decreases-loop-rest l = length l.rest
