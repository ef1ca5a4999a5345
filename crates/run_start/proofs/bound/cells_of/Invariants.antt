use Rattle.std.proofs.Common.{◌≡◌, ◌+◌, drop}
use Rattle.run_start.specs.Bound.{cells_of}
use Rattle.run_start.proofs.bound.cells_of.Given as goal

-- those that are counted by now, and those of the other variables, are all
abbrev pub invariant-loop-slot : goal.invariant-loop-slot
invariant-loop-slot l = l.cells + cells_of (drop l.slot-index l.slots) ≡ cells_of l.slots
