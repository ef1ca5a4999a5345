use Rattle.std.proofs.Common.{◌≡◌, drop}
use Rattle.offered_names.specs.Gaps.{gap_start}
use Rattle.offered_names.proofs.gaps.gap_start.Given as goal

abbrev pub invariant-loop-token : goal.invariant-loop-token
invariant-loop-token l = gap_start l.start (drop l.token-index l.tokens) ≡ gap_start 0 l.tokens
