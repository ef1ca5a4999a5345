use Rattle.std.proofs.Common.{◌≡◌, ◌+◌, ◌≤◌, drop, min}
use Rattle.promela_run.specs.Statements.{channels_made}
use Rattle.run_start.proofs.counting.are_too_many.Given as goal

-- those that are counted by now, and those of the other variables, are all
abbrev pub invariant-loop-slot : goal.invariant-loop-slot
invariant-loop-slot l = record {
  same : min 256 (l.count + channels_made l.beginnings.typedefs (drop l.slot-index l.slots)) ≡ min 256 (l.live + channels_made l.beginnings.typedefs l.slots);
  few : l.count ≤ 256;
}
