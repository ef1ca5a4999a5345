use Rattle.view_text.specs.Written.{Stays}
use Rattle.view_past.proofs.whole.add_whole.Given as goal

abbrev pub invariant-loop-live : goal.invariant-loop-live
invariant-loop-live l = Stays l.fn.out l.out
