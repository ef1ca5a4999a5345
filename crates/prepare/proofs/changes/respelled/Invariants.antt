use Rattle.std.proofs.Common.{◌≡◌, take}
use Rattle.prepare.specs.Changes.{respelled}
use Rattle.prepare.proofs.changes.respelled.Given as goal

abbrev pub invariant-loop-exchange : goal.invariant-loop-exchange
invariant-loop-exchange l = l.out.items ≡ respelled (take l.exchange-index l.all)
