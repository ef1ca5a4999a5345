use Rattle.std.proofs.Common.{◌≡◌, drop}
use Rattle.offered_names.specs.References.{form_read}
use Rattle.offered_names.proofs.references.form_read.Given as goal

abbrev pub invariant-loop-i : goal.invariant-loop-i
invariant-loop-i l = l.form ≡ form_read l.text l.declarations l.owner (drop l.i l.names)
