-- Why the values of expressions are not answered.
use Rattle.std.specs.Prelude.{◌≡◌, Result, Err}
use Rattle.diagnostics.specs.declared.fault.Fault.{Fault}
use Rattle.diagnostics.specs.declared.stop.Stop.{Stop}
use Rattle.diagnostics.specs.declared.stop.Stop.TheVariants as stop

-- there is a fault, and it is this one; or memory is refused, whatever there is
abbrev pub Stops : {A : Type 0} → Result A Fault → Stop → Type 0
Stops r (stop.Fault f) = r ≡ Err f
Stops r stop.Memory = Unit {0}
