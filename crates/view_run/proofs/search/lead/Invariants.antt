use Rattle.view_walk.specs.Walks.{SameModel}
use Rattle.view_run.proofs.search.lead.Given as goal

abbrev pub invariant-loop-leg : goal.invariant-loop-leg
invariant-loop-leg l = SameModel l.fn.walk l.walk
