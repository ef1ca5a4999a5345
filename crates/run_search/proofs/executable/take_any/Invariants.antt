use Rattle.std.proofs.Common.{drop}
use Rattle.run_search.specs.Taking.{EachTakesAny}
use Rattle.run_search.proofs.executable.take_any.Given as goal

-- it hangs on the rest
abbrev pub invariant-loop-argument : goal.invariant-loop-argument
invariant-loop-argument l = EachTakesAny (drop l.argument-index l.arguments) → EachTakesAny l.arguments
