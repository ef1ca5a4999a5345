use Rattle.std.proofs.Common.{◌≡◌, length}
use Rattle.message_frames.specs.Front.{are_blank}
use Rattle.message_frames.proofs.front.are_blank.Given as goal

abbrev pub invariant-loop-rest : goal.invariant-loop-rest
invariant-loop-rest l = are_blank l.rest ≡ are_blank l.bytes

abbrev pub decreases-loop-rest : goal.decreases-loop-rest
decreases-loop-rest l = length l.rest
