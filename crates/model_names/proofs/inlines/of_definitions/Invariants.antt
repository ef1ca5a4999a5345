use Rattle.std.proofs.Common.{◌≡◌, ◌++◌, drop}
use Rattle.model_names.specs.Inlines.{of_definitions}
use Rattle.model_names.proofs.inlines.of_definitions.Given as goal

abbrev pub invariant-loop-i : goal.invariant-loop-i
invariant-loop-i l = l.out.items ++ of_definitions (drop l.i l.tokens) ≡ of_definitions l.tokens
