use Rattle.view_text.specs.Written.{Stays}
use Rattle.view_trail.proofs.inner.add_whole.Given as goal

abbrev pub invariant-loop-token : goal.invariant-loop-token
invariant-loop-token l = Stays l.fn.out l.out
