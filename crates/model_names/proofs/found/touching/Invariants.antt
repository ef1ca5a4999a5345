use Rattle.std.proofs.Common.{◌≡◌, drop, find}
use Rattle.model_names.specs.Found.{touches}
use Rattle.model_names.proofs.found.touching.Given as goal

abbrev pub invariant-loop-occurrence : goal.invariant-loop-occurrence
invariant-loop-occurrence l = find (touches l.offset) (drop l.occurrence-index l.occurrences) ≡ find (touches l.offset) l.occurrences
