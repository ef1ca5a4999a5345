use Rattle.std.proofs.Common.{◌≡◌, ◌+◌, drop}
use Rattle.model_names.specs.Inlines.{count_before}
use Rattle.model_names.proofs.scanned.count_before.Given as goal

abbrev pub invariant-loop-i : goal.invariant-loop-i
invariant-loop-i l = l.i + count_before l.kind (drop l.i l.tokens) ≡ count_before l.kind l.tokens
