use Rattle.view_text.specs.Written.{Stays}
use Rattle.view_state.proofs.state.add_frame.Given as goal

abbrev pub invariant-loop-variable : goal.invariant-loop-variable
invariant-loop-variable l = Stays l.fn.out l.out
