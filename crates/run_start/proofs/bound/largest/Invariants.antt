use Rattle.std.proofs.Common.{◌≡◌, max, drop}
use Rattle.run_start.specs.Bound.{largest}
use Rattle.run_start.proofs.bound.largest.Given as goal

-- the most by now, and of the other proctypes, is the most of all
abbrev pub invariant-loop-proctype : goal.invariant-loop-proctype
invariant-loop-proctype l = max l.most (largest (drop l.proctype-index l.proctypes)) ≡ largest l.proctypes
