-- What an expression reads, by who reads it.
use Rattle.std.specs.Prelude.{ℕ, ◌+◌, Bool, if◌then◌else◌, Option, Some, Result, Ok}
use Rattle.promela_process.specs.Expressions.{Reading, val, ◌>>=◌}
use Rattle.diagnostics.specs.declared.fault.Fault.{Fault}
use Rattle.pml_program.specs.declared.expr.Expr.{Expr}
use Rattle.pml_program.specs.declared.expr.Target.{Target}
use Rattle.promela_run.specs.declared.goes.Goes.{Goes}
use Rattle.promela_run.specs.Statements.{goes_to}
use Rattle.pml_value.specs.declared.view.View.{View}
use Rattle.promela_run.specs.State.{reading_of}

-- the frame of a variable, as the process with this number reads it
abbrev pub frame_of : ℕ → Bool → ℕ
frame_of pid local = if local then pid + 1 else 0

-- the value of the right side, then the place
abbrev pub assigned : Option Target → Expr → Reading → Result (Option Goes) Fault
assigned t v r = val v r >>= λ n. goes_to t n r

-- where one number goes, as what a statement stores
abbrev pub one_outcome : Result Goes Fault → Result (Option Goes) Fault
one_outcome d = d >>= λ g. Ok (Some g)

-- what a view reads
abbrev pub seen : View → Reading
seen v = reading_of v.store.now.frames v.channels.now v.pid v.process_count v.timeout
