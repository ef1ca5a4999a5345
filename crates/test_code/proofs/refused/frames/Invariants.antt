use Rattle.std.proofs.Common.{◌≡◌}
use Rattle.test_code.proofs.refused.frames.Given as goal

-- there may be as many cells as at first
abbrev pub invariant-loop-frame : goal.invariant-loop-frame
invariant-loop-frame g l = l.store.most ≡ 27
