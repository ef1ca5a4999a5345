use Rattle.view_text.specs.Written.{Stays}
use Rattle.view_state.proofs.state.add_state.Given as goal

abbrev pub invariant-loop-before : goal.invariant-loop-before
invariant-loop-before l = Stays l.fn.out l.out

abbrev pub invariant-loop-process : goal.invariant-loop-process
invariant-loop-process l = Stays l.fn.out l.out
