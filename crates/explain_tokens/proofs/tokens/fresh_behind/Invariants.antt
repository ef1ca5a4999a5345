use Rattle.std.proofs.Common.{◌≡◌, drop}
use Rattle.promela_text.specs.Tokens.{fresh_from}
use Rattle.explain_tokens.proofs.tokens.fresh_behind.Given as goal

abbrev pub invariant-loop-b : goal.invariant-loop-b
invariant-loop-b l = fresh_from l.so_far (drop l.b-index l.text) ≡ fresh_from l.fn.fresh l.text
