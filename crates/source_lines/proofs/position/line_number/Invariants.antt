-- line feeds before the loop's byte
use Rattle.std.proofs.Common.{◌≡◌, ◌≤◌, ◌+◌, take}
use Rattle.std.specs.Prelude.{count_by}
use Rattle.source_lines.specs.Places.{is_line_feed}
use Rattle.source_lines.proofs.position.line_number.Given as goal

abbrev pub invariant-loop-byte : goal.invariant-loop-byte
invariant-loop-byte l = (l.number ≡ 1 + count_by is_line_feed (take l.byte-index l.front)) × (l.number ≤ l.byte-index + 1)
