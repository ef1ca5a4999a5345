-- the places before the loop's
use Rattle.std.proofs.Common.{◌≡◌, ◌≤◌}
use Rattle.source_lines.specs.Beside.{count_before}
use Rattle.source_lines.proofs.beside.count_before.Given as goal

abbrev pub invariant-loop-at : goal.invariant-loop-at
invariant-loop-at l = (l.count ≡ count_before l.line l.token l.at) × (l.count ≤ l.at)
