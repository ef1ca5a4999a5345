use Rattle.view_text.specs.Written.{Stays}
use Rattle.view_state.proofs.source.add_source.Given as goal

abbrev pub invariant-loop-byte : goal.invariant-loop-byte
invariant-loop-byte l = Stays l.fn.out l.out
