use Rattle.std.proofs.Common.{◌≡◌, ◌-◌, ◌≤◌, length, drop}
use Rattle.pml_lex.specs.Scanning.{comment_end}
use Rattle.pml_lex.proofs.lexeme.comment_end.Given as goal

abbrev pub invariant-loop-end : goal.invariant-loop-end
invariant-loop-end l = (comment_end l.end (drop l.end l.text) ≡ comment_end l.from (drop l.from l.text)) × (l.end ≤ length l.text)

abbrev pub decreases-loop-end : goal.decreases-loop-end
decreases-loop-end l = length l.text - l.end
