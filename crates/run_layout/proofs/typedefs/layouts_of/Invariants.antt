use Rattle.std.proofs.Common.{◌≡◌, ◌++◌, drop, map}
use Rattle.run_layout.specs.Tables.{fields}
use Rattle.run_layout.proofs.typedefs.layouts_of.Given as goal

-- the layouts so far, and those of the rest
abbrev pub invariant-loop-fields : goal.invariant-loop-fields
invariant-loop-fields l = l.layouts.items ++ map fields (drop l.fields-index l.typedefs) ≡ map fields l.typedefs
