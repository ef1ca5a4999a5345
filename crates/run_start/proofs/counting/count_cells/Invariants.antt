use Rattle.std.proofs.Common.{◌≡◌, ◌+◌, ◌-◌, ◌≤◌, min}
use Rattle.promela_run.specs.State.{size}
use Rattle.promela_run.specs.Statements.{channels_among}
use Rattle.run_start.proofs.counting.count_cells.Given as goal

-- those that are counted by now, and those of the other cells, are all
abbrev pub invariant-loop-cell : goal.invariant-loop-cell
invariant-loop-cell l = record {
  same : min 256 (l.count + channels_among l.beginnings.typedefs l.slot l.cell (size l.slot - l.cell)) ≡ min 256 (l.counted + channels_among l.beginnings.typedefs l.slot 0 (size l.slot));
  few : l.count ≤ 256;
}
