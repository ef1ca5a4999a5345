use Rattle.std.proofs.Common.{◌≡◌, ◌++◌, length}
use Rattle.record_messages.specs.Changes.{changes_by, changes}
use Rattle.record_messages.proofs.changes.changes.Given as goal

abbrev pub invariant-loop-rest : goal.invariant-loop-rest
invariant-loop-rest l = l.out.items ++ changes_by l.members l.records l.place l.last (record { number = l.number; name = l.name; channel = l.channel; index = l.index }) l.rest ≡ changes l.members l.records l.first l.stretches

abbrev pub decreases-loop-rest : goal.decreases-loop-rest
decreases-loop-rest l = length l.rest
