use Rattle.view_text.specs.Written.{Stays}
use Rattle.view_walk.specs.Walks.{SameModel}
use Rattle.view_session.proofs.answers.choose.Given as goal

abbrev pub invariant-loop-word : goal.invariant-loop-word
invariant-loop-word l = SameModel l.fn.walk l.walk × Stays l.fn.told.out l.told.out
