use Rattle.view_text.specs.Written.{Stays}
use Rattle.trail_text.proofs.declared.add_value.Given as goal

abbrev pub invariant-loop-at : goal.invariant-loop-at
invariant-loop-at l = Stays l.fn.out l.out
