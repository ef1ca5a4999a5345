use Rattle.std.proofs.Common.{◌≡◌, ◌+◌, ◌≤◌, length}
use Rattle.promela_model.specs.Conditions.{conversions}
use Rattle.check_conditions.proofs.Conversions.{with_rest}
use Rattle.check_conditions.proofs.counts.conversions.Given as goal

abbrev pub invariant-loop-rest : goal.invariant-loop-rest
invariant-loop-rest l = record { same : with_rest l.count (conversions l.rest) ≡ conversions l.text; few : l.count + length l.rest ≤ length l.text }

abbrev pub decreases-loop-rest : goal.decreases-loop-rest
decreases-loop-rest l = length l.rest
