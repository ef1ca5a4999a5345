use Rattle.std.proofs.Common.{◌≤◌, ◌+◌, length}
use Rattle.pml_directives.proofs.branches.without_defined.Given as goal

abbrev pub invariant-loop-rest : goal.invariant-loop-rest
invariant-loop-rest l = length l.out.items + length l.rest ≤ length l.fn.atoms

abbrev pub decreases-loop-rest : goal.decreases-loop-rest
decreases-loop-rest l = length l.rest
