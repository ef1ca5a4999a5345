use Rattle.spinprep_program.proofs.Given.{Put}
use Rattle.spinprep_program.proofs.over.put.Given as goal

abbrev pub invariant-loop-stretch : goal.invariant-loop-stretch
invariant-loop-stretch g l = Put (g.W.Write.contents l.initial.out) (g.W.Write.contents l.out) l.bytes l.rest
