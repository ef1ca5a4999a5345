use Rattle.view_text.specs.Written.{Stays}
use Rattle.view_session.proofs.values.add_values.Given as goal

abbrev pub invariant-loop-change : goal.invariant-loop-change
invariant-loop-change l = Stays l.fn.out l.out
