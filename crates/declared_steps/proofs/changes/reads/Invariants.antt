use Rattle.std.proofs.Common.{◌≡◌, length}
use Rattle.declared_steps.specs.Changes.{reads}
use Rattle.declared_steps.proofs.changes.reads.Given as goal

abbrev pub invariant-loop-rest : goal.invariant-loop-rest
invariant-loop-rest l = reads l.name l.rest ≡ reads l.name l.stretches

abbrev pub decreases-loop-rest : goal.decreases-loop-rest
decreases-loop-rest l = length l.rest
