use Rattle.view_walk.specs.Walks.{SameModel}
use Rattle.dap_answers.specs.Sessions.{GoesOn}
use Rattle.dap_answers.proofs.back.last_met.Given as goal

abbrev pub invariant-loop-step : goal.invariant-loop-step
invariant-loop-step l = SameModel l.fn.walk l.walk × GoesOn l.fn.session l.session
