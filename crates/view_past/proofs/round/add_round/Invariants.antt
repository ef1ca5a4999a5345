use Rattle.view_text.specs.Written.{Stays}
use Rattle.view_past.proofs.round.add_round.Given as goal

abbrev pub invariant-loop-first : goal.invariant-loop-first
invariant-loop-first l = Stays l.fn.out l.out
