use Rattle.std.proofs.Common.{◌≡◌, max, drop}
use Rattle.run_start.specs.Bound.{largest, room_of_processes}
use Rattle.test_code.proofs.limits.largest.Given as goal

-- the most by now, and of the other proctypes, is the most of all
abbrev pub invariant-loop-proctype : goal.invariant-loop-proctype
invariant-loop-proctype l = (max l.cells (largest (drop l.proctype-index l.proctypes)) ≡ largest l.proctypes) × (max l.room (room_of_processes (drop l.proctype-index l.proctypes)) ≡ room_of_processes l.proctypes)
