use Rattle.std.proofs.Common.{◌≡◌, drop}
use Rattle.text_parts.specs.Definitions.{definition}
use Rattle.text_parts.proofs.definitions.definition.Given as goal

abbrev pub invariant-loop-i : goal.invariant-loop-i
invariant-loop-i l = definition l.word l.name (drop l.i l.tokens) ≡ definition l.word l.name l.tokens
