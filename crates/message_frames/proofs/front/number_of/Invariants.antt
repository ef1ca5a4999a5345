use Rattle.std.proofs.Common.{◌≡◌, length}
use Rattle.message_frames.specs.Front.{number_of, within}
use Rattle.message_frames.proofs.front.number_of.Given as goal

abbrev pub invariant-loop-rest : goal.invariant-loop-rest
invariant-loop-rest l = within (number_of l.rest) ≡ within (number_of l.bytes)

abbrev pub decreases-loop-rest : goal.decreases-loop-rest
decreases-loop-rest l = length l.rest
