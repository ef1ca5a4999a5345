use Rattle.std.proofs.Common.{◌≡◌, drop, find}
use Rattle.offered_names.specs.References.{is_called}
use Rattle.offered_names.proofs.references.called.Given as goal

abbrev pub invariant-loop-declaration : goal.invariant-loop-declaration
invariant-loop-declaration l = find (is_called l.text l.owner l.name) (drop l.declaration-index l.declarations) ≡ find (is_called l.text l.owner l.name) l.declarations
