use Rattle.std.proofs.Common.{◌≡◌, ◌++◌, drop, map}
use Rattle.run_layout.specs.Tables.{variables}
use Rattle.run_layout.proofs.tables.layouts_of.Given as goal

-- the layouts so far, and those of the rest
abbrev pub invariant-loop-proctype : goal.invariant-loop-proctype
invariant-loop-proctype l = l.layouts.items ++ map variables (drop l.proctype-index l.proctypes) ≡ map variables l.proctypes
