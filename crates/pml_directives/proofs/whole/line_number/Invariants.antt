use Rattle.std.proofs.Common.{◌≡◌, length}
use Rattle.pml_directives.specs.Names.{line_from}
use Rattle.pml_directives.proofs.whole.line_number.Given as goal

abbrev pub invariant-loop-rest : goal.invariant-loop-rest
invariant-loop-rest l = line_from 0 l.text ≡ line_from l.number l.rest

abbrev pub decreases-loop-rest : goal.decreases-loop-rest
decreases-loop-rest l = length l.rest
