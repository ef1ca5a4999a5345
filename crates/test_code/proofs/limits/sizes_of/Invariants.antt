use Rattle.std.proofs.Common.{◌≡◌, ◌+◌, max, drop}
use Rattle.run_start.specs.Bound.{cells_of, room_of}
use Rattle.test_code.proofs.limits.sizes_of.Given as goal

-- the cells that are counted by now, and those of the other variables, are all; and the most room by now, and of the others, is the most of all
abbrev pub invariant-loop-slot : goal.invariant-loop-slot
invariant-loop-slot l = (l.cells + cells_of (drop l.slot-index l.slots) ≡ cells_of l.slots) × (max l.room (room_of (drop l.slot-index l.slots)) ≡ room_of l.slots)
