use Rattle.std.proofs.Common.{◌≡◌, length}
use Rattle.run_state.specs.Coded.{AreCodes}
use Rattle.run_state.proofs.coding.codes_of.Given as goal

-- those so far
abbrev pub invariant-loop-number : goal.invariant-loop-number
invariant-loop-number l = record { counted : l.number ≡ length l.codes.codes; are : AreCodes l.globals l.locals l.statements l.codes }
