use Rattle.std.proofs.Common.{◌≡◌, ◌≤◌, ◌+◌, length}
use Rattle.called_macros.specs.Origins.{count_by, count_before}
use Rattle.called_macros.proofs.origin.count_before.Given as goal

abbrev pub invariant-loop-rest : goal.invariant-loop-rest
invariant-loop-rest l = (count_by l.count l.token l.left l.rest ≡ count_before l.token l.end l.stretches) × (l.count + length l.rest ≤ length l.stretches)

abbrev pub decreases-loop-rest : goal.decreases-loop-rest
decreases-loop-rest l = length l.rest
