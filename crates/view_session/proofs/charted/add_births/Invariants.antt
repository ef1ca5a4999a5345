use Rattle.view_text.specs.Written.{Stays}
use Rattle.view_session.proofs.charted.add_births.Given as goal

abbrev pub invariant-loop-process : goal.invariant-loop-process
invariant-loop-process l = Stays l.fn.out l.out
