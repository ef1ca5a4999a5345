-- What is passed on by a rendezvous.
use Rattle.std.specs.Prelude.{◌≡◌, ℕ, ℤ, Bool, List, Option, Result, Ok, Err, IsOk}
use Rattle.diagnostics.specs.declared.fault.Fault.{Fault}
use Rattle.diagnostics.specs.declared.stop.Stop.{Stop}
use Rattle.diagnostics.specs.declared.stop.Stop.TheVariants as stop
use Rattle.pml_program.specs.declared.expr.Want.{Want}
use Rattle.promela_process.specs.Expressions.{Reading, asked_by, ◌>>=◌}
use Rattle.pml_program.specs.declared.program.Basic.{Basic}
use Rattle.promela_run.specs.declared.goes.Goes.{Goes}
use Rattle.pml_value.specs.declared.view.View.{View}
use Rattle.pml_value.specs.Seen.{seen}
use Rattle.promela_run.specs.Statements.{stores}
use Rattle.run_search.specs.Viewed.{message_in}
use Rattle.promela_run.specs.State.{State, reads}
use Rattle.promela_run.specs.Moves.{message}
use Rattle.promela_run.specs.Steps.{passed, put_all}

-- what is stored of these fields by one who asks this of them
abbrev pub taken_by : List Want → List ℤ → Reading → Result (List Goes) Fault
taken_by ws xs r = asked_by ws r >>= λ ss. Ok (stores ss xs)

-- what one stores who reads by the second view of what is offered by the first
abbrev pub passed_between : View → Option Basic → View → Option Basic → Result (List Goes) Fault
passed_between v x w y = passed (seen w) (message_in v x) y

-- there is a fault, and it is this one; or there is none, and memory is refused
abbrev pub Refuses : {A : Type 0} → Result A Fault → Stop → Type 0
Refuses r (stop.Fault f) = r ≡ Err f
Refuses r stop.Memory = IsOk r

-- numbers in their cells from left to right, or the fault
abbrev pub put_any : State → Result (List Goes) Fault → Result State Fault
put_any s r = r >>= λ gs. Ok (put_all s gs)

-- it stores that
abbrev pub passes : State → ℕ → ℕ → Bool → Option Basic → Option Basic → Result State Fault
passes s i j t x y = put_any s (passed (reads s j t) (message s.channels (reads s i t) x) y)
