-- what is left of the line
use Rattle.std.proofs.Common.{◌≡◌, ◌-◌, length}
use Rattle.std.specs.List.{range_with_len}
use Rattle.source_lines.specs.Beside.{stands_at, such_behind, place_of}
use Rattle.source_lines.proofs.beside.place_of.Given as goal

abbrev pub invariant-loop-at : goal.invariant-loop-at
invariant-loop-at l = such_behind (stands_at l.line l.token) (range_with_len l.at (length l.line - l.at)) l.left ≡ place_of l.line l.token l.before
