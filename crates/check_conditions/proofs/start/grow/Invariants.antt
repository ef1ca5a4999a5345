use Rattle.std.proofs.Common.{◌≡◌, ℕ, ◌-◌, ◌+◌, length}
use Rattle.std.specs.Prelude.{slice_index_or}
use Rattle.check_conditions.proofs.start.grow.Given as goal

abbrev pub invariant-loop-counts : goal.invariant-loop-counts
invariant-loop-counts l = (k : ℕ) → slice_index_or l.counts k 0 ≡ slice_index_or l.initial.counts k 0

abbrev pub decreases-loop-counts : goal.decreases-loop-counts
decreases-loop-counts l = l.owner + 1 - length l.counts
