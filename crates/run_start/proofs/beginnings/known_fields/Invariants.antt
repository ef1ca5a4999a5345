use Rattle.std.proofs.Common.{◌≡◌, ◌++◌, drop, map}
use Rattle.run_start.specs.Known.{known}
use Rattle.run_start.proofs.beginnings.known_fields.Given as goal

-- what is known so far, and of the rest
abbrev pub invariant-loop-field : goal.invariant-loop-field
invariant-loop-field l = l.row ++ map known (drop l.field-index l.fields) ≡ map known l.fields
