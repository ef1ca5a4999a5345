use Rattle.view_text.specs.Written.{Stays}
use Rattle.walk_answers.proofs.scope.add_all.Given as goal

abbrev pub invariant-loop-at : goal.invariant-loop-at
invariant-loop-at l = Stays l.fn.out l.out
