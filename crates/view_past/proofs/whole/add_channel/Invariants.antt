use Rattle.view_text.specs.Written.{Stays}
use Rattle.view_past.proofs.whole.add_channel.Given as goal

abbrev pub invariant-loop-place : goal.invariant-loop-place
invariant-loop-place l = Stays l.fn.out l.out
