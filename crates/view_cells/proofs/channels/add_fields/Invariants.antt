use Rattle.view_text.specs.Written.{Stays}
use Rattle.view_cells.proofs.channels.add_fields.Given as goal

abbrev pub invariant-loop-i : goal.invariant-loop-i
invariant-loop-i l = Stays l.fn.out l.out
