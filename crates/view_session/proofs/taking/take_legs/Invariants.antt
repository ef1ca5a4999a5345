use Rattle.view_text.specs.Written.{Stays}
use Rattle.view_walk.specs.Walks.{SameModel}
use Rattle.view_session.proofs.taking.take_legs.Given as goal

abbrev pub invariant-loop-leg : goal.invariant-loop-leg
invariant-loop-leg l = SameModel l.fn.walk l.walk × Stays l.fn.told.out l.told.out
