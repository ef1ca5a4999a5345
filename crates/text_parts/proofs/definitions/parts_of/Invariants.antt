use Rattle.std.proofs.Common.{◌≡◌, ◌++◌, None, drop}
use Rattle.text_parts.specs.Definitions.{parts}
use Rattle.text_parts.proofs.definitions.parts_of.Given as goal

abbrev pub invariant-loop-token : goal.invariant-loop-token
invariant-loop-token l = l.out.items ++ parts l.part (drop l.token-index l.tokens) ≡ parts None l.tokens
