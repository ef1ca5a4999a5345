use Rattle.std.proofs.Common.{◌≡◌, drop}
use Rattle.explain_cause.specs.Places.{left_out}
use Rattle.explain_cause.proofs.lexical.left_out.Given as goal

abbrev pub invariant-loop-token : goal.invariant-loop-token
invariant-loop-token l = left_out (drop l.token-index l.tokens) ≡ left_out l.tokens
