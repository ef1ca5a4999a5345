use Rattle.view_text.specs.Written.{Stays}
use Rattle.view_cells.proofs.cells.place_of.Given as goal

abbrev pub invariant-loop-variable : goal.invariant-loop-variable
invariant-loop-variable l = Stays l.fn.text l.text
