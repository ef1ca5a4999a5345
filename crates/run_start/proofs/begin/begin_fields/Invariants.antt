use Rattle.std.proofs.Common.{◌≡◌, ◌-◌}
use Rattle.promela_run.specs.State.{size, fields_begun}
use Rattle.run_start.specs.Shown.{shown}
use Rattle.run_start.specs.Known.{Keeps}
use Rattle.run_start.proofs.begin.begin_fields.Given as goal

-- what is begun by now, and then the other cells, is what all begin with
abbrev pub invariant-loop-cell : goal.invariant-loop-cell
invariant-loop-cell l = record {
  same : fields_begun l.beginnings.typedefs l.slot l.variable l.cell (size l.slot - l.cell) (shown l.started) ≡ fields_begun l.beginnings.typedefs l.slot l.variable 0 (size l.slot) (shown l.initial.started);
  keeps : Keeps l.initial.started l.started;
}
