use Rattle.std.proofs.Common.{◌≡◌, length}
use Rattle.record_messages.specs.Variables.{record_of}
use Rattle.record_messages.proofs.variables.record_of.Given as goal

abbrev pub invariant-loop-rest : goal.invariant-loop-rest
invariant-loop-rest l = record_of l.rest l.name ≡ record_of l.records l.name

abbrev pub decreases-loop-rest : goal.decreases-loop-rest
decreases-loop-rest l = length l.rest
