use Rattle.view_text.specs.Written.{Stays}
use Rattle.view_past.proofs.round.add_from.Given as goal

abbrev pub invariant-loop-count : goal.invariant-loop-count
invariant-loop-count l = Stays l.fn.out l.out
