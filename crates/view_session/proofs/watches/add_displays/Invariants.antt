use Rattle.view_text.specs.Written.{Stays}
use Rattle.view_session.proofs.watches.add_displays.Given as goal

abbrev pub invariant-loop-numbered : goal.invariant-loop-numbered
invariant-loop-numbered l = Stays l.fn.out l.out
