use Rattle.std.proofs.Common.{◌≡◌, ◌++◌, drop}
use Rattle.check_uses.specs.Parts.{of_constants}
use Rattle.check_uses.proofs.model.constants.Given as goal

abbrev pub invariant-loop-i : goal.invariant-loop-i
invariant-loop-i l = l.out ≡ l.initial.out ++ of_constants (drop l.i l.names)
