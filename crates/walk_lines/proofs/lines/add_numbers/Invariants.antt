use Rattle.view_tokens.specs.Printed.{Stays}
use Rattle.walk_lines.proofs.lines.add_numbers.Given as goal

abbrev pub invariant-loop-leg : goal.invariant-loop-leg
invariant-loop-leg l = Stays l.fn.json l.json
