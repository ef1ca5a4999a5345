use Rattle.std.proofs.Common.{◌≡◌, drop}
use Rattle.run_start.specs.Known.{have_no_initials}
use Rattle.run_start.proofs.beginnings.have_no_initials.Given as goal

-- none so far
abbrev pub invariant-loop-fields : goal.invariant-loop-fields
invariant-loop-fields l = have_no_initials (drop l.fields-index l.typedefs) ≡ have_no_initials l.typedefs
