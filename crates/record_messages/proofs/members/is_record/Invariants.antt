use Rattle.std.proofs.Common.{◌≡◌, length}
use Rattle.record_messages.specs.Members.{is_record_by, is_record}
use Rattle.record_messages.proofs.members.is_record.Given as goal

abbrev pub invariant-loop-rest : goal.invariant-loop-rest
invariant-loop-rest l = is_record_by l.has_fields l.name l.rest ≡ is_record l.members l.name

abbrev pub decreases-loop-rest : goal.decreases-loop-rest
decreases-loop-rest l = length l.rest
