use Rattle.view_text.specs.Written.{Stays}
use Rattle.view_walk.specs.Walks.{SameModel}
use Rattle.view_session.proofs.seeking.last_seen.Given as goal

abbrev pub invariant-loop-step : goal.invariant-loop-step
invariant-loop-step l = SameModel l.fn.walk l.walk × Stays l.fn.told.out l.told.out
