-- What is told of a state beside its moves.
use Rattle.std.specs.Prelude.{◌≡◌, ℕ, Bool, List, ⊤}
use Rattle.session.specs.declared.machine.Report.{Report}
use Rattle.session.specs.declared.machine.Report.TheVariants.{Values, Ending}
use Rattle.promela_machine.specs.Machine.{Rules}

-- the value lines of the step that led to the state, or the lines of an invalid end
abbrev pub reported : {S M : Type 0} → Rules S M → S → Report → List ℕ
reported rules s (Values globals locals) = rules.values s globals locals
reported rules s Ending = rules.stuck s

-- of an ending, whether it is a valid one
abbrev pub IsVerdict : {S M : Type 0} → Rules S M → S → Report → Bool → Type 0
IsVerdict rules s (Values globals locals) valid = ⊤
IsVerdict rules s Ending valid = valid ≡ rules.is_valid s
