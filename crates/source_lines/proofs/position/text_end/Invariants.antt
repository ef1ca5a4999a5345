-- the same of the bytes before the loop's
use Rattle.std.proofs.Common.{◌≡◌, length, take}
use Rattle.source_lines.specs.Places.{ends_line, trimmed}
use Rattle.source_lines.proofs.position.text_end.Given as goal

abbrev pub invariant-loop-i : goal.invariant-loop-i
invariant-loop-i l = l.end ≡ length (trimmed ends_line (take l.i l.text))
