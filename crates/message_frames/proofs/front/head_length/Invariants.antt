use Rattle.std.proofs.Common.{◌≡◌, ◌+◌, length, option_map}
use Rattle.message_frames.specs.Front.{head_length}
use Rattle.message_frames.proofs.front.head_length.Given as goal

abbrev pub invariant-loop-rest : goal.invariant-loop-rest
invariant-loop-rest l = (option_map (λ n. l.passed + n) (head_length l.rest) ≡ head_length l.bytes) × (l.passed + length l.rest ≡ length l.bytes)

abbrev pub decreases-loop-rest : goal.decreases-loop-rest
decreases-loop-rest l = length l.rest
