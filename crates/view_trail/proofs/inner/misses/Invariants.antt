use Rattle.view_text.specs.Written.{Stays}
use Rattle.view_trail.proofs.inner.misses.Given as goal

abbrev pub invariant-loop-turn : goal.invariant-loop-turn
invariant-loop-turn l = Stays l.fn.out l.out
