use Rattle.std.proofs.Common.{◌≡◌, length}
use Rattle.run_state.specs.Coded.{AreAllCodes}
use Rattle.run_state.proofs.coding.codes_of_all.Given as goal

-- those so far
abbrev pub invariant-loop-sort : goal.invariant-loop-sort
invariant-loop-sort l = record { counted : l.sort ≡ length l.all.items; are : AreAllCodes l.program l.all.items }
