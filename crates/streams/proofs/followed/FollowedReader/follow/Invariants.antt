use Rattle.std.proofs.Common.{◌≡◌}
use Rattle.streams.proofs.followed.FollowedReader.follow.Given as goal

abbrev pub invariant-loop-byte : goal.invariant-loop-byte
invariant-loop-byte g l = l.self ≡ l.initial.self
