use Rattle.view_walk.specs.Walks.{SameModel}
use Rattle.view_run.proofs.trailed.follow_all.Given as goal

abbrev pub invariant-loop-turn : goal.invariant-loop-turn
invariant-loop-turn l = SameModel l.fn.walk l.walk
