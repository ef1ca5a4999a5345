use Rattle.std.proofs.Common.{◌≡◌, ◌++◌, take}
use Rattle.pml_flow.proofs.level.add_copies.Given as goal

abbrev pub invariant-loop-level : goal.invariant-loop-level
invariant-loop-level l = l.levels.items ≡ l.fn.levels.items ++ take l.level-index l.more
