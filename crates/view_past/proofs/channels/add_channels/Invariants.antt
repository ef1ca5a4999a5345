use Rattle.view_text.specs.Written.{Stays}
use Rattle.view_past.proofs.channels.add_channels.Given as goal

abbrev pub invariant-loop-wait : goal.invariant-loop-wait
invariant-loop-wait l = Stays l.fn.out l.out
