use Rattle.std.proofs.Common.{◌≡◌, ◌+◌, drop}
use Rattle.text_parts.specs.Offsets.{reach}
use Rattle.text_parts.proofs.places.reach.Given as goal

abbrev pub invariant-loop-i : goal.invariant-loop-i
invariant-loop-i l = l.i + reach l.unit l.left (drop l.i l.line) ≡ reach l.unit l.fn.column l.line
