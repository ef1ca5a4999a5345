use Rattle.std.proofs.Common.{◌≡◌, take, true}
use Rattle.std.specs.List.{list_all}
use Rattle.prepare.specs.Laws.{is_token}
use Rattle.prepared.proofs.made.are_tokens.Given as goal

abbrev pub invariant-loop-stretch : goal.invariant-loop-stretch
invariant-loop-stretch l = list_all is_token (take l.stretch-index l.stretches) ≡ true
