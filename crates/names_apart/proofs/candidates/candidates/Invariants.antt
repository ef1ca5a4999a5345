use Rattle.std.proofs.Common.{◌≤◌, length}
use Rattle.names_apart.specs.declared.candidates.TheConstants.{MOST_NAMES}
use Rattle.names_apart.proofs.candidates.candidates.Given as goal

abbrev pub invariant-loop-stretch : goal.invariant-loop-stretch
invariant-loop-stretch l = length l.out.items ≤ MOST_NAMES
