use Rattle.std.proofs.Common.{◌≡◌, ◌++◌, drop}
use Rattle.model_names.specs.Found.{declared_in}
use Rattle.model_names.proofs.found.add_declared.Given as goal

abbrev pub invariant-loop-occurrence : goal.invariant-loop-occurrence
invariant-loop-occurrence l = l.out.items ++ declared_in l.at (drop l.occurrence-index l.occurrences) ≡ l.fn.out.items ++ declared_in l.at l.occurrences
