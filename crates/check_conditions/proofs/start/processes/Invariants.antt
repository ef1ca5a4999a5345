use Rattle.std.proofs.Common.{◌≡◌, ◌+◌, ◌≤◌, min, drop}
use Rattle.check_conditions.specs.Step.{begun}
use Rattle.check_conditions.proofs.start.processes.Given as goal

abbrev pub invariant-loop-mark : goal.invariant-loop-mark
invariant-loop-mark l = record {
  same : min (l.total + begun (drop l.mark-index l.marks)) 256 ≡ min (begun l.marks) 256;
  few : l.total ≤ 256;
}
