use Rattle.std.proofs.Common.{◌≡◌, length}
use Rattle.names_apart.specs.Writing.{longest_by, longest}
use Rattle.names_apart.proofs.writing.longest.Given as goal

abbrev pub invariant-loop-rest : goal.invariant-loop-rest
invariant-loop-rest l = longest_by l.most l.run l.rest ≡ longest l.text

abbrev pub decreases-loop-rest : goal.decreases-loop-rest
decreases-loop-rest l = length l.rest
