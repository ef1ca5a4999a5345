use Rattle.std.proofs.Common.{◌≤◌, length}
use Rattle.listed_values.proofs.writing.lines_of.Given as goal

abbrev pub invariant-loop-changed : goal.invariant-loop-changed
invariant-loop-changed l = length l.lines.items ≤ l.changed-index
