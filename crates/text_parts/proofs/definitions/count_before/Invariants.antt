use Rattle.std.proofs.Common.{◌≡◌, ◌+◌, drop}
use Rattle.text_parts.specs.Definitions.{count_before}
use Rattle.text_parts.proofs.definitions.count_before.Given as goal

abbrev pub invariant-loop-i : goal.invariant-loop-i
invariant-loop-i l = l.i + count_before (drop l.i l.tokens) ≡ count_before l.tokens
