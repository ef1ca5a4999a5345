use Rattle.view_text.specs.Written.{Stays}
use Rattle.view_cells.proofs.cells.cell_of.Given as goal

abbrev pub invariant-loop-cell : goal.invariant-loop-cell
invariant-loop-cell l = Stays l.fn.text l.text
