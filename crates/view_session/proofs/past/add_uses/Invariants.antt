use Rattle.view_text.specs.Written.{Stays}
use Rattle.view_session.proofs.past.add_uses.Given as goal

abbrev pub invariant-loop-process : goal.invariant-loop-process
invariant-loop-process l = Stays l.fn.out l.out
