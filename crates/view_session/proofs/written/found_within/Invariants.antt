use Rattle.view_text.specs.Written.{Stays}
use Rattle.view_session.proofs.written.found_within.Given as goal

abbrev pub invariant-loop-process : goal.invariant-loop-process
invariant-loop-process l = Stays l.fn.text l.text
