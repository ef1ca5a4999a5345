use Rattle.std.proofs.Common.{◌≡◌, take}
use Rattle.explain_find.proofs.find.copied.Given as goal

abbrev pub invariant-loop-token : goal.invariant-loop-token
invariant-loop-token l = l.list.items ≡ take l.token-index l.tokens
