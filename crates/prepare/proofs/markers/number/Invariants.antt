use Rattle.std.proofs.Common.{◌≡◌, ◌≤◌, take}
use Rattle.prepare.specs.Markers.{number}
use Rattle.prepare.proofs.markers.number.Given as goal

abbrev pub invariant-loop-digit : goal.invariant-loop-digit
invariant-loop-digit l = (l.number ≡ number (take l.digit-index l.digits)) × (l.number ≤ 1048577)
