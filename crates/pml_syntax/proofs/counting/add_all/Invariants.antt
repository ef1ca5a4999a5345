use Rattle.std.proofs.Common.{◌≡◌, ◌++◌, drop}
use Rattle.pml_syntax.proofs.counting.add_all.Given as goal

abbrev pub invariant-loop-token : goal.invariant-loop-token
invariant-loop-token l = l.found ++ drop l.token-index l.tokens ≡ l.initial.found ++ l.tokens
