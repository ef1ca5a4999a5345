use Rattle.std.proofs.Common.{◌≡◌, ◌+◌, ◌++◌, length, take, drop}
use Rattle.message_frames.specs.Front.{line}
use Rattle.message_frames.proofs.front.line.Given as goal

abbrev pub invariant-loop-rest : goal.invariant-loop-rest
invariant-loop-rest l = (line l.bytes ≡ take l.length l.bytes ++ line l.rest) × (l.rest ≡ drop l.length l.bytes) × (l.length + length l.rest ≡ length l.bytes)

abbrev pub decreases-loop-rest : goal.decreases-loop-rest
decreases-loop-rest l = length l.rest
