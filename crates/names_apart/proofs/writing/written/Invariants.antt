use Rattle.std.proofs.Common.{◌≡◌, ◌++◌, length}
use Rattle.names_apart.specs.Writing.{written}
use Rattle.names_apart.proofs.writing.written.Given as goal

abbrev pub invariant-loop-rest : goal.invariant-loop-rest
invariant-loop-rest l = l.out.items ++ written l.name l.joint l.rest ≡ written l.name l.joint l.all

abbrev pub decreases-loop-rest : goal.decreases-loop-rest
decreases-loop-rest l = length l.rest
