use Rattle.std.proofs.Common.{◌≡◌}
use Rattle.run_start.specs.Known.{known_cells}
use Rattle.run_start.proofs.beginnings.Beginnings.element.Given as goal

-- the cells so far, in a walk over those of the variable
abbrev pub invariant-loop-cell : goal.invariant-loop-cell
invariant-loop-cell l = record {
  cells : l.cells.items ≡ known_cells l.self.typedefs l.slot l.cell;
  typedefs : l.cursor.typedefs ≡ l.self.typedefs;
  slot : l.cursor.slot ≡ l.slot;
}
