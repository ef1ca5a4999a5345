use Rattle.view_walk.specs.Walks.{SameModel}
use Rattle.dap_answers.specs.Sessions.{GoesOn}
use Rattle.dap_answers.proofs.console.obey.Given as goal

abbrev pub invariant-loop-turn : goal.invariant-loop-turn
invariant-loop-turn l = SameModel l.fn.walk l.walk × GoesOn l.fn.session l.session
