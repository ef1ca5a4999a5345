use Rattle.std.proofs.Common.{◌≡◌, ◌++◌, drop}
use Rattle.model_names.specs.Inlines.{declared_definitions}
use Rattle.model_names.proofs.inlines.declared_definitions.Given as goal

abbrev pub invariant-loop-i : goal.invariant-loop-i
invariant-loop-i l = l.out.items ++ declared_definitions (drop l.i l.tokens) ≡ declared_definitions l.tokens
