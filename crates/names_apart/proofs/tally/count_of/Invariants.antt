use Rattle.std.proofs.Common.{◌≡◌, length}
use Rattle.names_apart.specs.Tallies.{count_of}
use Rattle.names_apart.proofs.tally.count_of.Given as goal

abbrev pub invariant-loop-rest : goal.invariant-loop-rest
invariant-loop-rest l = count_of l.rest l.token ≡ count_of l.table l.token

abbrev pub decreases-loop-rest : goal.decreases-loop-rest
decreases-loop-rest l = length l.rest
