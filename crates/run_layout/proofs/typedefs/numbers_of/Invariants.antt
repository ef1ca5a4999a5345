use Rattle.std.proofs.Common.{◌≤◌, length, drop}
use Rattle.run_layout.specs.Tables.{AreNumbers}
use Rattle.run_layout.proofs.typedefs.numbers_of.Given as goal

-- the typedefs from here on have their numbers
abbrev pub invariant-loop-left : goal.invariant-loop-left
invariant-loop-left l = record {
  within : l.left ≤ length l.typedefs;
  numbered : AreNumbers l.typedefs (drop l.left l.typedefs) l.numbers;
}

abbrev pub decreases-loop-left : goal.decreases-loop-left
decreases-loop-left l = l.left
