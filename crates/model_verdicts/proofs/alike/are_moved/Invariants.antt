use Rattle.std.proofs.Common.{take}
use Rattle.model_verdicts.specs.Alike.{AreMoved}
use Rattle.model_verdicts.proofs.alike.are_moved.Given as goal

abbrev pub invariant-loop-i : goal.invariant-loop-i
invariant-loop-i l = AreMoved l.exchange.places.now l.exchange.before l.exchange.then (take l.i l.before) (take l.i l.then)
