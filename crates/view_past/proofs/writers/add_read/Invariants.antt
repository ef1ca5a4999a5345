use Rattle.view_text.specs.Written.{Stays}
use Rattle.view_past.proofs.writers.add_read.Given as goal

abbrev pub invariant-loop-read : goal.invariant-loop-read
invariant-loop-read l = Stays l.fn.out l.out
