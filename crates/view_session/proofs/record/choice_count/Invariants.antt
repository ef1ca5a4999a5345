use Rattle.std.proofs.Common.{◌≡◌, ◌≤◌, length, take}
use Rattle.view_walk.specs.Records.{numbers_of}
use Rattle.view_session.proofs.record.choice_count.Given as goal

abbrev pub invariant-loop-leg : goal.invariant-loop-leg
invariant-loop-leg l = (l.count ≡ length (numbers_of (take l.leg-index l.legs))) × (l.count ≤ l.leg-index)
