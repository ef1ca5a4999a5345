use Rattle.std.proofs.Common.{◌≡◌, length}
use Rattle.explain_find.specs.Marks.{begins_from}
use Rattle.explain_find.proofs.marks.begins_from.Given as goal

abbrev pub invariant-loop-rest : goal.invariant-loop-rest
invariant-loop-rest l = begins_from l.rest l.offset l.place ≡ begins_from l.tokens l.offset l.place

abbrev pub decreases-loop-rest : goal.decreases-loop-rest
decreases-loop-rest l = length l.rest
