use Rattle.std.proofs.Common.{◌≡◌, take}
use Rattle.pml_control.proofs.post.copies.Given as goal

abbrev pub invariant-loop-token : goal.invariant-loop-token
invariant-loop-token l = l.copied ≡ take l.token-index l.tokens
