use Rattle.view_walk.specs.Walks.{SameModel}
use Rattle.spinview.proofs.serving.take_steps.Given as goal

abbrev pub invariant-loop-turn : goal.invariant-loop-turn
invariant-loop-turn l = SameModel l.fn.walk l.walk
