use Rattle.view_text.specs.Written.{Stays}
use Rattle.view_state.proofs.why.add_waiting.Given as goal

abbrev pub invariant-loop-wait : goal.invariant-loop-wait
invariant-loop-wait l = Stays l.fn.out l.out
