use Rattle.std.proofs.Common.{◌≡◌, ◌+◌, ◌≤◌, min, drop}
use Rattle.std.specs.Prelude.{slice_index_or}
use Rattle.check_conditions.specs.Step.{by_processes}
use Rattle.check_conditions.proofs.start.by_processes.Given as goal

abbrev pub invariant-loop-mark : goal.invariant-loop-mark
invariant-loop-mark l = record {
  same : min (l.total + by_processes (λ o. slice_index_or l.counts o 0) (drop l.mark-index l.marks)) 256 ≡ min (by_processes (λ o. slice_index_or l.counts o 0) l.marks) 256;
  few : l.total ≤ 256;
}
