use Rattle.std.proofs.Common.{◌≡◌, ◌++◌, length}
use Rattle.record_messages.specs.Members.{members_by, all_members}
use Rattle.record_messages.proofs.members.all_members.Given as goal

abbrev pub invariant-loop-rest : goal.invariant-loop-rest
invariant-loop-rest l = l.out.items ++ members_by l.fields l.home l.word l.rest ≡ all_members l.stretches

abbrev pub decreases-loop-rest : goal.decreases-loop-rest
decreases-loop-rest l = length l.rest
