use Rattle.std.proofs.Common.{◌≡◌, ◌++◌, drop, map}
use Rattle.promela_run.specs.State.{size}
use Rattle.run_start.proofs.begin.sizes.Given as goal

-- the sizes so far and those of the rest are those of all
abbrev pub invariant-loop-slot : goal.invariant-loop-slot
invariant-loop-slot l = l.sizes.items ++ map size (drop l.slot-index l.slots) ≡ map size l.slots
