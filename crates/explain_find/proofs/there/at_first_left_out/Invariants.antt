use Rattle.std.proofs.Common.{◌≡◌, drop}
use Rattle.explain_find.specs.Tokens.{at_first_left_out}
use Rattle.explain_find.proofs.there.at_first_left_out.Given as goal

abbrev pub invariant-loop-token : goal.invariant-loop-token
invariant-loop-token l = at_first_left_out (drop l.token-index l.tokens) l.place ≡ at_first_left_out l.tokens l.place
