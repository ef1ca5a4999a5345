-- want of memory stays
use Rattle.view_text.specs.Written.{Stays}
use Rattle.view_text.proofs.writer.Writer.blanks.Given as goal

abbrev pub invariant-loop : goal.invariant-loop
invariant-loop l = Stays l.fn.self l.self
