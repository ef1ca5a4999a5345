use Rattle.std.proofs.Common.{◌≡◌, ◌-◌}
use Rattle.promela_run.specs.State.{with_values}
use Rattle.run_start.specs.Shown.{shown}
use Rattle.run_start.specs.Known.{Keeps}
use Rattle.run_start.proofs.begin.fill.Given as goal

-- what is stored by now, and then the other cells, is what all come to
abbrev pub invariant-loop-cell : goal.invariant-loop-cell
invariant-loop-cell l = record {
  same : with_values l.variable l.number l.cell (l.cells - l.cell) (shown l.started) ≡ with_values l.variable l.number 0 l.cells (shown l.initial.started);
  keeps : Keeps l.initial.started l.started;
}
