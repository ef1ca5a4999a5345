use Rattle.view_walk.specs.Walks.{SameModel}
use Rattle.spinview.proofs.lines.skip.Given as goal

abbrev pub invariant-loop-turn : goal.invariant-loop-turn
invariant-loop-turn g l = SameModel l.fn.walk l.walk
