use Rattle.std.proofs.Common.{◌≡◌, ◌++◌, drop}
use Rattle.check_resolve.specs.Numbered.{scope_of}
use Rattle.check_resolve.specs.Statements.{values}
use Rattle.check_resolve.proofs.action.values.Given as goal

abbrev pub invariant-loop-e : goal.invariant-loop-e
invariant-loop-e l =
    l.values ++ values (drop l.e-index l.es) (scope_of l.within) ≡ values l.es (scope_of l.within)
