use Rattle.std.proofs.Common.{◌≡◌, ◌++◌, true, length}
use Rattle.record_messages.specs.Writing.{types}
use Rattle.record_messages.proofs.writing.add_types.Given as goal

abbrev pub invariant-loop-rest : goal.invariant-loop-rest
invariant-loop-rest l = l.out.items ++ types l.is_front l.rest l.word ≡ l.initial.out.items ++ types true l.members l.word

abbrev pub decreases-loop-rest : goal.decreases-loop-rest
decreases-loop-rest l = length l.rest
