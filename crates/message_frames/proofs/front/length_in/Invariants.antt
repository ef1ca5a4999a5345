use Rattle.std.proofs.Common.{◌≡◌, length, true}
use Rattle.message_frames.specs.Front.{length_from, within}
use Rattle.message_frames.proofs.front.length_in.Given as goal

abbrev pub invariant-loop-rest : goal.invariant-loop-rest
invariant-loop-rest l = within (length_from l.begins l.rest) ≡ within (length_from true l.head)

abbrev pub decreases-loop-rest : goal.decreases-loop-rest
decreases-loop-rest l = length l.rest
