use Rattle.std.proofs.Common.{◌≡◌, ◌+◌, length, option_map}
use Rattle.explain_cause.specs.Places.{index_at}
use Rattle.explain_cause.proofs.place.index_at.Given as goal

abbrev pub invariant-loop-rest : goal.invariant-loop-rest
invariant-loop-rest l =
    (option_map (λ n. l.passed + n) (index_at l.offset l.rest) ≡ index_at l.offset l.tokens) × (l.passed + length l.rest ≡ length l.tokens)

abbrev pub decreases-loop-rest : goal.decreases-loop-rest
decreases-loop-rest l = length l.rest
