use Rattle.std.proofs.Common.{◌≡◌, ◌++◌, length}
use Rattle.record_messages.specs.Variables.{variables_by, variables}
use Rattle.record_messages.proofs.variables.variables.Given as goal

abbrev pub invariant-loop-rest : goal.invariant-loop-rest
invariant-loop-rest l = l.out.items ++ variables_by l.reading l.last l.word l.rest ≡ variables l.stretches

abbrev pub decreases-loop-rest : goal.decreases-loop-rest
decreases-loop-rest l = length l.rest
