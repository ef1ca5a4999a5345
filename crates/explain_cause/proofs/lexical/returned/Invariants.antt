use Rattle.std.proofs.Common.{◌≡◌, drop}
use Rattle.explain_cause.specs.Places.{left_out}
use Rattle.explain_cause.proofs.lexical.returned.Given as goal

abbrev pub invariant-loop-i : goal.invariant-loop-i
invariant-loop-i l = left_out (drop l.i l.tokens) ≡ left_out l.tokens
