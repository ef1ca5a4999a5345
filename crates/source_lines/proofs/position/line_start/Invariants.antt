-- what stands in front of the loop's byte on its line
use Rattle.std.proofs.Common.{◌≡◌, ◌+◌, length, take}
use Rattle.source_lines.specs.Places.{front_of}
use Rattle.source_lines.proofs.position.line_start.Given as goal

abbrev pub invariant-loop-i : goal.invariant-loop-i
invariant-loop-i l = (l.start + length (front_of (take l.i l.byte-items)) ≡ l.i)
