use Rattle.std.proofs.Common.{◌≡◌, drop}
use Rattle.std.specs.List.{list_any}
use Rattle.explain_find.specs.Tokens.{touches}
use Rattle.explain_find.proofs.there.touches_any.Given as goal

abbrev pub invariant-loop-token : goal.invariant-loop-token
invariant-loop-token l = list_any (touches l.place) (drop l.token-index l.tokens) ≡ list_any (touches l.place) l.tokens
