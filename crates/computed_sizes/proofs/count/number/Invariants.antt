use Rattle.std.proofs.Common.{◌≡◌, length, fold}
use Rattle.computed_sizes.specs.Counts.{digit_behind, number}
use Rattle.computed_sizes.proofs.count.number.Given as goal

abbrev pub invariant-loop-rest : goal.invariant-loop-rest
invariant-loop-rest l = fold digit_behind l.number l.rest ≡ number l.digits

abbrev pub decreases-loop-rest : goal.decreases-loop-rest
decreases-loop-rest l = length l.rest
