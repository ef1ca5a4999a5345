use Rattle.std.proofs.Common.{◌≡◌, ◌++◌, length}
use Rattle.computed_sizes.specs.Resizing.{blanks}
use Rattle.computed_sizes.proofs.writing.add_blanks.Given as goal

abbrev pub invariant-loop-rest : goal.invariant-loop-rest
invariant-loop-rest l = l.out.items ++ blanks l.rest ≡ l.initial.out.items ++ blanks l.token

abbrev pub decreases-loop-rest : goal.decreases-loop-rest
decreases-loop-rest l = length l.rest
