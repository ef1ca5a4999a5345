use Rattle.view_text.specs.Written.{Stays}
use Rattle.view_past.proofs.whole.add_processes.Given as goal

abbrev pub invariant-loop-seat : goal.invariant-loop-seat
invariant-loop-seat l = Stays l.fn.out l.out
