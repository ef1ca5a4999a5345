use Rattle.std.proofs.Common.{◌≡◌, ◌++◌, length}
use Rattle.called_macros.specs.Origins.{atoms_by, atoms_on}
use Rattle.called_macros.proofs.origin.atoms_on.Given as goal

abbrev pub invariant-loop-rest : goal.invariant-loop-rest
invariant-loop-rest l = l.out.items ++ atoms_by l.origin l.line l.token l.now l.rest ≡ atoms_on l.origin l.line l.token

abbrev pub decreases-loop-rest : goal.decreases-loop-rest
decreases-loop-rest l = length l.rest
