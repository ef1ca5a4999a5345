use Rattle.std.proofs.Common.{◌≡◌, drop}
use Rattle.promela_text.specs.Tokens.{fresh_from}
use Rattle.prepare.proofs.stretches.fresh_behind.Given as goal

abbrev pub invariant-loop-b : goal.invariant-loop-b
invariant-loop-b l = fresh_from l.fresh (drop l.b-index l.text) ≡ fresh_from l.initial.fresh l.text
