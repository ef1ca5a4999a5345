use Rattle.std.proofs.Common.{◌≡◌, ◌≤◌, length}
use Rattle.message_frames.specs.declared.front.TheConstants.{MOST_BYTES}
use Rattle.message_frames.specs.Front.{number_behind, within}
use Rattle.message_frames.proofs.front.number_behind.Given as goal

abbrev pub invariant-loop-rest : goal.invariant-loop-rest
invariant-loop-rest l = (within (number_behind l.number l.rest) ≡ within (number_behind 0 l.bytes)) × (l.number ≤ MOST_BYTES)

abbrev pub decreases-loop-rest : goal.decreases-loop-rest
decreases-loop-rest l = length l.rest
