use Rattle.view_text.specs.Written.{Stays}
use Rattle.view_state.proofs.state.add_variable.Given as goal

abbrev pub invariant-loop-cell : goal.invariant-loop-cell
invariant-loop-cell l = Stays l.fn.out l.out
