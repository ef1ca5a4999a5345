use Rattle.std.proofs.Common.{◌≡◌, drop}
use Rattle.std.specs.List.{list_any}
use Rattle.explain_find.specs.Tokens.{begins}
use Rattle.explain_find.proofs.there.begins_any.Given as goal

abbrev pub invariant-loop-token : goal.invariant-loop-token
invariant-loop-token l = list_any (begins l.place) (drop l.token-index l.tokens) ≡ list_any (begins l.place) l.tokens
