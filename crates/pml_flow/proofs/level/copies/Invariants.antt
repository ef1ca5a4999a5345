use Rattle.std.proofs.Common.{◌≡◌, take}
use Rattle.pml_flow.proofs.level.copies.Given as goal

abbrev pub invariant-loop-level : goal.invariant-loop-level
invariant-loop-level l = l.copied.items ≡ take l.level-index l.levels
