use Rattle.std.proofs.Common.{◌≡◌, ◌<◌, ◌+◌, ℕ, List, length, slice_index_or, nat_eq, if◌then◌else◌, IfOk, ◌^◌, ◌-◌, ◌*◌, ◌≤◌, take}
use Rattle.view_json.specs.Counts.{AreCounts}
use Rattle.view_json.proofs.counted.counts_of.Given as goal

abbrev pub invariant-loop-m : goal.invariant-loop-m
invariant-loop-m l = AreCounts l.processes l.counts.items (take l.m-index l.moves)
