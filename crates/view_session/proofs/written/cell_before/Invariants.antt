use Rattle.view_walk.specs.Walks.{SameModel}
use Rattle.view_session.proofs.written.cell_before.Given as goal

abbrev pub invariant-loop-step : goal.invariant-loop-step
invariant-loop-step l = SameModel l.fn.walk l.walk
