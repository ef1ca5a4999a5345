use Rattle.view_text.specs.Written.{Stays}
use Rattle.view_state.proofs.why.add_why.Given as goal

abbrev pub invariant-loop-process : goal.invariant-loop-process
invariant-loop-process l = Stays l.fn.out l.out
