use Rattle.view_text.specs.Written.{Stays}
use Rattle.view_session.proofs.steps.add_changes.Given as goal

abbrev pub invariant-loop-change : goal.invariant-loop-change
invariant-loop-change l = Stays l.fn.out l.out
