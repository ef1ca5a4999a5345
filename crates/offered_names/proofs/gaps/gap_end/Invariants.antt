use Rattle.std.proofs.Common.{◌≡◌, drop}
use Rattle.offered_names.specs.Gaps.{gap_end}
use Rattle.offered_names.proofs.gaps.gap_end.Given as goal

abbrev pub invariant-loop-token : goal.invariant-loop-token
invariant-loop-token l = gap_end l.length (drop l.token-index l.tokens) ≡ gap_end l.length l.tokens
