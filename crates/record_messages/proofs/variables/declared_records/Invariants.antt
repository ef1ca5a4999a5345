use Rattle.std.proofs.Common.{◌≡◌, ◌++◌, length}
use Rattle.record_messages.specs.declared.variables.TheConstants.{MOST_RECORDS}
use Rattle.record_messages.specs.Variables.{declared_records}
use Rattle.record_messages.proofs.variables.declared_records.Given as goal

abbrev pub invariant-loop-rest : goal.invariant-loop-rest
invariant-loop-rest l = l.out.items ++ declared_records l.room l.members l.rest ≡ declared_records MOST_RECORDS l.members l.variables

abbrev pub decreases-loop-rest : goal.decreases-loop-rest
decreases-loop-rest l = length l.rest
