use Rattle.std.proofs.Common.{◌≡◌, drop}
use Rattle.run_start.specs.Shown.{shown}
use Rattle.promela_run.specs.Statements.{with_arguments}
use Rattle.run_start.specs.Known.{Keeps}
use Rattle.run_start.proofs.create.set_arguments.Given as goal

-- what is set by now, and then the other arguments, is what all come to
abbrev pub invariant-loop-variable : goal.invariant-loop-variable
invariant-loop-variable l = record {
  same : with_arguments l.variable (drop l.variable l.slots) (drop l.variable l.arguments) (shown l.started) ≡ with_arguments 0 l.slots l.arguments (shown l.initial.started);
  keeps : Keeps l.initial.started l.started;
}
