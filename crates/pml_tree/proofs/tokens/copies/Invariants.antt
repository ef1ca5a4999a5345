use Rattle.std.proofs.Common.{◌≡◌, ◌++◌, drop}
use Rattle.pml_tree.proofs.tokens.copies.Given as goal

abbrev pub invariant-loop-token : goal.invariant-loop-token
invariant-loop-token l = l.found ++ drop l.token-index l.tokens ≡ l.tokens
