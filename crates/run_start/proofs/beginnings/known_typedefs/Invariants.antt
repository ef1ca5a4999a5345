use Rattle.std.proofs.Common.{◌≡◌, ◌++◌, drop, map}
use Rattle.run_start.specs.Known.{known_fields}
use Rattle.run_start.proofs.beginnings.known_typedefs.Given as goal

-- what is known so far, and of the rest
abbrev pub invariant-loop-fields : goal.invariant-loop-fields
invariant-loop-fields l = l.rows.items ++ map known_fields (drop l.fields-index l.typedefs) ≡ map known_fields l.typedefs
