use Rattle.view_text.specs.Written.{Stays}
use Rattle.view_past.proofs.writers.add_writers.Given as goal

abbrev pub invariant-loop-wait : goal.invariant-loop-wait
invariant-loop-wait l = Stays l.fn.out l.out
