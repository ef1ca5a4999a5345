use Rattle.dap_answers.specs.Sessions.{GoesOn}
use Rattle.dap_answers.proofs.stop.tell_each.Given as goal

abbrev pub invariant-loop-process : goal.invariant-loop-process
invariant-loop-process l = GoesOn l.fn.session l.session
