use Rattle.std.proofs.Common.{◌≡◌, length}
use Rattle.explain_find.specs.Inlines.{has_definition}
use Rattle.explain_find.proofs.inlines.has_definition.Given as goal

abbrev pub invariant-loop-rest : goal.invariant-loop-rest
invariant-loop-rest l = has_definition l.name l.rest ≡ has_definition l.name l.tokens

abbrev pub decreases-loop-rest : goal.decreases-loop-rest
decreases-loop-rest l = length l.rest
