use Rattle.std.proofs.Common.{◌++◌, List, ℕ, drop}
use Rattle.run_layout.specs.Tables.{AreStarts}
use Rattle.flat_code.proofs.owner.starts_of.Given as goal

-- the places so far, and those of the rest
abbrev pub invariant-loop-slot : goal.invariant-loop-slot
invariant-loop-slot l = (xs : List ℕ) → AreStarts l.at (drop l.slot-index l.slots) xs → AreStarts 0 l.slots (l.starts.items ++ xs)
