-- what was said before the loop stays
use Rattle.explain.specs.Said.{Keeps}
use Rattle.explain.proofs.message.Notice.character.Given as goal

abbrev pub invariant-loop-turn : goal.invariant-loop-turn
invariant-loop-turn l = Keeps l.fn.self l.self
