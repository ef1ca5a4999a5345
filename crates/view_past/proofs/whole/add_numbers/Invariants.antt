use Rattle.view_text.specs.Written.{Stays}
use Rattle.view_past.proofs.whole.add_numbers.Given as goal

abbrev pub invariant-loop-number : goal.invariant-loop-number
invariant-loop-number l = Stays l.fn.out l.out
