use Rattle.std.proofs.Common.{◌≡◌, length}
use Rattle.pml_directives.specs.Plain.{is_plain, is_plain_behind}
use Rattle.pml_directives.proofs.plain.is_plain.Given as goal

abbrev pub invariant-loop-rest : goal.invariant-loop-rest
invariant-loop-rest l = is_plain l.text ≡ is_plain_behind l.last l.rest

abbrev pub decreases-loop-rest : goal.decreases-loop-rest
decreases-loop-rest l = length l.rest
