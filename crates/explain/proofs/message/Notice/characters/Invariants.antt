-- what was said before the loop stays
use Rattle.explain.specs.Said.{Keeps}
use Rattle.explain.proofs.message.Notice.characters.Given as goal

abbrev pub invariant-loop-c : goal.invariant-loop-c
invariant-loop-c l = Keeps l.fn.self l.self
