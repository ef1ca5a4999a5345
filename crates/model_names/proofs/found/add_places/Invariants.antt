use Rattle.std.proofs.Common.{◌≡◌, ◌++◌, drop}
use Rattle.model_names.specs.Found.{places_in}
use Rattle.model_names.proofs.found.add_places.Given as goal

abbrev pub invariant-loop-occurrence : goal.invariant-loop-occurrence
invariant-loop-occurrence l = l.out.items ++ places_in l.declared (drop l.occurrence-index l.occurrences) ≡ l.fn.out.items ++ places_in l.declared l.occurrences
