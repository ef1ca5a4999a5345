use Rattle.std.proofs.Common.{◌≡◌, drop}
use Rattle.explain_find.specs.Heads.{head}
use Rattle.explain_find.proofs.heads.head.Given as goal

abbrev pub invariant-loop-token : goal.invariant-loop-token
invariant-loop-token l = head (drop l.token-index l.tokens) l.so_far ≡ head l.tokens l.fn.part
