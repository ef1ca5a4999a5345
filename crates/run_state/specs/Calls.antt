-- What the calls of a step do to a state.
use Rattle.std.specs.Prelude.{ℕ, List, Option, Result, slice_get, Bool}
use Rattle.std.specs.Option.{option_map_or}
use Rattle.pml_tree.specs.declared.tree.SendOrder.{SendOrder}
use Rattle.pml_program.specs.declared.expr.Expr.{Expr}
use Rattle.pml_program.specs.declared.expr.Target.{Target}
use Rattle.promela_run.specs.Statements.{sent}
use Rattle.diagnostics.specs.declared.fault.Fault.{Fault}
use Rattle.promela_run.specs.State.{State, reads}
use Rattle.promela_process.specs.Control.{Control}
use Rattle.promela_run.specs.declared.goes.Goes.{Goes}
use Rattle.promela_run.specs.Steps.{put, with_received, with_sent, body_by}
use Rattle.pml_value.specs.declared.receive.Reception.{Reception}
use Rattle.pml_value.specs.Reception.{received_by}
use Rattle.run_state.specs.Standing.{control_at}

-- a number in its cell, where there is one to store
abbrev pub put_if : State → Option Goes → State
put_if s o = option_map_or (put s) o s

-- a message of these fields is sent to the channel that a variable names
abbrev pub sends_by : State → ℕ → Bool → Target → SendOrder → List Expr → Result State Fault
sends_by s p t x order es = with_sent s (sent s.channels (reads s p t) x order es)

-- a message is received as the receive says
abbrev pub receives_by : State → ℕ → Bool → Reception → Result State Fault
receives_by s p t x = with_received s (received_by s.channels (reads s p t) x)

-- what is to do at a node of the body in which a process stands
abbrev pub control_of : State → ℕ → ℕ → Control
control_of s p n = control_at (body_by s (slice_get s.stands p)) n
