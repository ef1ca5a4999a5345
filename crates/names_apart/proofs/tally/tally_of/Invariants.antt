use Rattle.std.proofs.Common.{◌≡◌, length}
use Rattle.names_apart.specs.Tallies.{tallied_by, tallied}
use Rattle.names_apart.proofs.tally.tally_of.Given as goal

abbrev pub invariant-loop-rest : goal.invariant-loop-rest
invariant-loop-rest l = tallied_by l.name l.scope l.table.items l.home l.most l.is_left l.rest ≡ tallied l.name l.stretches

abbrev pub decreases-loop-rest : goal.decreases-loop-rest
decreases-loop-rest l = length l.rest
