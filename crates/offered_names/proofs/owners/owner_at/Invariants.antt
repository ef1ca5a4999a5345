use Rattle.std.proofs.Common.{◌≡◌, drop}
use Rattle.offered_names.specs.Owners.{owner_at}
use Rattle.offered_names.proofs.owners.owner_at.Given as goal

abbrev pub invariant-loop-i : goal.invariant-loop-i
invariant-loop-i l = owner_at l.head (drop l.i l.declarations) ≡ owner_at l.head l.declarations
