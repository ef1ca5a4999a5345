use Rattle.std.proofs.Common.{◌≡◌, ◌++◌, map, drop}
use Rattle.check_resolve.specs.Declarations.{plain}
use Rattle.check_resolve.proofs.declare.forms.Given as goal

abbrev pub invariant-loop-one : goal.invariant-loop-one
invariant-loop-one l = l.forms ++ map plain (drop l.one-index l.types) ≡ map plain l.types
