use Rattle.std.proofs.Common.{◌≡◌, ◌++◌, length}
use Rattle.record_messages.specs.Variables.{settled}
use Rattle.record_messages.proofs.variables.settled.Given as goal

abbrev pub invariant-loop-rest : goal.invariant-loop-rest
invariant-loop-rest l = l.out.items ++ settled l.all l.rest ≡ settled l.all l.found

abbrev pub decreases-loop-rest : goal.decreases-loop-rest
decreases-loop-rest l = length l.rest
