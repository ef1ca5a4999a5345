use Rattle.std.proofs.Common.{◌≡◌, ◌++◌, drop}
use Rattle.pml_flow.specs.Marked.{lines_from}
use Rattle.pml_flow.proofs.lines.kept_lines.Given as goal

abbrev pub invariant-loop-number : goal.invariant-loop-number
invariant-loop-number l = l.lines.items ++ lines_from l.brace l.statements l.number (drop l.number l.next) ≡ lines_from l.brace l.statements 0 l.next
