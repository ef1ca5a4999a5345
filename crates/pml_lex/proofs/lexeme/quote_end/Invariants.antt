use Rattle.std.proofs.Common.{◌≡◌, ◌-◌, ◌≤◌, length, drop, false}
use Rattle.pml_lex.specs.Scanning.{quote_end}
use Rattle.pml_lex.proofs.lexeme.quote_end.Given as goal

abbrev pub invariant-loop-end : goal.invariant-loop-end
invariant-loop-end l = (quote_end l.end l.escaped (drop l.end l.text) ≡ quote_end l.from false (drop l.from l.text)) × (l.end ≤ length l.text)

abbrev pub decreases-loop-end : goal.decreases-loop-end
decreases-loop-end l = length l.text - l.end
