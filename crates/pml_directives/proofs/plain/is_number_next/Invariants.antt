use Rattle.std.proofs.Common.{◌≡◌, length}
use Rattle.pml_directives.specs.Plain.{is_number_next}
use Rattle.pml_directives.proofs.plain.is_number_next.Given as goal

abbrev pub invariant-loop-rest : goal.invariant-loop-rest
invariant-loop-rest l = is_number_next l.text ≡ is_number_next l.rest

abbrev pub decreases-loop-rest : goal.decreases-loop-rest
decreases-loop-rest l = length l.rest
