use Rattle.std.proofs.Common.{◌≡◌, ◌++◌, true, length}
use Rattle.record_messages.specs.Writing.{fields}
use Rattle.record_messages.proofs.writing.add_fields.Given as goal

abbrev pub invariant-loop-rest : goal.invariant-loop-rest
invariant-loop-rest l = l.out.items ++ fields l.is_front l.rest l.word l.name ≡ l.initial.out.items ++ fields true l.members l.word l.name

abbrev pub decreases-loop-rest : goal.decreases-loop-rest
decreases-loop-rest l = length l.rest
