-- what was said before the loop stays
use Rattle.explain.specs.Said.{Keeps}
use Rattle.explain.proofs.message.Notice.bytes.Given as goal

abbrev pub invariant-loop-byte : goal.invariant-loop-byte
invariant-loop-byte l = Keeps l.fn.self l.self
