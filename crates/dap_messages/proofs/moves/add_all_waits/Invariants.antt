use Rattle.view_text.specs.Written.{Stays}
use Rattle.dap_messages.proofs.moves.add_all_waits.Given as goal

abbrev pub invariant-loop-at : goal.invariant-loop-at
invariant-loop-at l = Stays l.fn.out l.out
