use Rattle.std.proofs.Common.{◌≡◌, length}
use Rattle.std.specs.List.{All}
use Rattle.run_layout.specs.Cursor.{IsOnWay}
use Rattle.run_layout.proofs.cursor.Cursor.back.Given as goal

-- the typedefs and the variable stay, and what is still remembered is on the way to what it says
abbrev pub invariant-loop-self : goal.invariant-loop-self
invariant-loop-self l = record {
  typedefs : l.self-inside.typedefs.now ≡ l.fn.self.typedefs;
  slot : l.self-inside.slot.now ≡ l.fn.self.slot;
  way : All (IsOnWay l.fn.self.typedefs l.fn.self.slot) l.self-inside.stages.items;
}

abbrev pub decreases-loop-self : goal.decreases-loop-self
decreases-loop-self l = length l.self-inside.stages.items
