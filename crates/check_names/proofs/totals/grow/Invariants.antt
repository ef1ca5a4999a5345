use Rattle.std.proofs.Common.{◌≡◌, ℕ, ◌-◌, ◌+◌, length}
use Rattle.check_names.specs.Totals.{total_at}
use Rattle.check_names.proofs.totals.grow.Given as goal

abbrev pub invariant-loop-totals : goal.invariant-loop-totals
invariant-loop-totals l = (k : ℕ) → total_at l.totals k ≡ total_at l.initial.totals k

abbrev pub decreases-loop-totals : goal.decreases-loop-totals
decreases-loop-totals l = l.owner + 1 - length l.totals
