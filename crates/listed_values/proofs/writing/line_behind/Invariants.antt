use Rattle.std.proofs.Common.{◌≤◌}
use Rattle.listed_values.proofs.writing.line_behind.Given as goal

abbrev pub invariant-loop-b : goal.invariant-loop-b
invariant-loop-b l = l.fn.line ≤ l.line
