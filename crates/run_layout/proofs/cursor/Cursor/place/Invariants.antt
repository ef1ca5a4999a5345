use Rattle.std.proofs.Common.{◌≡◌, ◌≤◌}
use Rattle.run_layout.specs.Cursor.{IsOnWay}
use Rattle.run_layout.proofs.cursor.Cursor.place.Given as goal

-- the field so far is on the way to the cell
abbrev pub invariant-loop-next : goal.invariant-loop-next
invariant-loop-next l = record {
  same : l.self ≡ l.fn.self;
  way : IsOnWay l.fn.self.typedefs l.fn.self.slot l.stage;
  first : l.stage.first ≤ l.cell;
  last : l.cell ≤ l.stage.last;
}

abbrev pub decreases-loop-next : goal.decreases-loop-next
decreases-loop-next l = l.stage.following
