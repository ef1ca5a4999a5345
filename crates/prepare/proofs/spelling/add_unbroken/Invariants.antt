use Rattle.std.proofs.Common.{◌≡◌, ◌++◌, ◌-◌, ◌≤◌, length, drop, false}
use Rattle.prepare.specs.Spelling.{unbroken}
use Rattle.prepare.proofs.spelling.add_unbroken.Given as goal

abbrev pub invariant-loop-at : goal.invariant-loop-at
invariant-loop-at l = (l.out.items ++ unbroken l.is_escaped (drop l.at l.token) ≡ l.initial.out.items ++ unbroken false l.token) × (l.at ≤ length l.token)

abbrev pub decreases-loop-at : goal.decreases-loop-at
decreases-loop-at l = length l.token - l.at
