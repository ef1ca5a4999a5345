use Rattle.view_text.specs.Written.{Stays}
use Rattle.view_walk.specs.Walks.{SameModel}
use Rattle.view_session.proofs.listed.add_page.Given as goal

abbrev pub invariant-loop-turn : goal.invariant-loop-turn
invariant-loop-turn l = SameModel l.fn.walk l.walk × Stays l.fn.told.out l.told.out
