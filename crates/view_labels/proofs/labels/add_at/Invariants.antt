use Rattle.view_text.specs.Written.{Stays}
use Rattle.view_labels.proofs.labels.add_at.Given as goal

abbrev pub invariant-loop-behind : goal.invariant-loop-behind
invariant-loop-behind l = Stays l.fn.out l.out
