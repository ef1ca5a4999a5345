use Rattle.view_text.specs.Written.{Stays}
use Rattle.walk_answers.proofs.scope.condition_in_proctype.Given as goal

abbrev pub invariant-loop-sort : goal.invariant-loop-sort
invariant-loop-sort l = Stays l.fn.out l.out
