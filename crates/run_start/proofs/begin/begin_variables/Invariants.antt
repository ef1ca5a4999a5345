use Rattle.std.proofs.Common.{◌≡◌, drop}
use Rattle.promela_run.specs.State.{variables_begun}
use Rattle.run_start.specs.Shown.{shown}
use Rattle.run_start.specs.Known.{Keeps}
use Rattle.run_start.proofs.begin.begin_variables.Given as goal

-- what is begun by now, and then the other variables, is what all begin with
abbrev pub invariant-loop-variable : goal.invariant-loop-variable
invariant-loop-variable l = record {
  same : variables_begun l.beginnings.typedefs (drop l.variable l.slots) l.variable (shown l.started) ≡ variables_begun l.beginnings.typedefs l.slots 0 (shown l.initial.started);
  keeps : Keeps l.initial.started l.started;
}
