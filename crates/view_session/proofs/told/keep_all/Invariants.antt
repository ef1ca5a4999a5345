use Rattle.std.specs.Prelude.{◌≡◌}
use Rattle.view_walk.specs.Walks.{SameModel}
use Rattle.view_session.proofs.told.keep_all.Given as goal

abbrev pub invariant-loop-step : goal.invariant-loop-step
invariant-loop-step l = SameModel l.fn.walk l.walk × (l.told.out ≡ l.fn.told.out)
