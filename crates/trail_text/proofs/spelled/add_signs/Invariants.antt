use Rattle.view_text.specs.Written.{Stays}
use Rattle.trail_text.proofs.spelled.add_signs.Given as goal

abbrev pub invariant-loop-turn : goal.invariant-loop-turn
invariant-loop-turn l = Stays l.fn.out l.out
