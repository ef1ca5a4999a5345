use Rattle.std.proofs.Common.{◌≡◌, ℕ, List, length}
use Rattle.prepare.specs.Sizes.{declared, declared_by, agreed, agreed_from}
use Rattle.prepare.specs.Found.{size_in}
use Rattle.prepare.proofs.sizes.sizes_of.Given as goal

abbrev pub invariant-loop-rest : goal.invariant-loop-rest
invariant-loop-rest l = (n : List ℕ) → agreed_from n (size_in l.numbers n) (declared_by l.reading l.rest) ≡ agreed n (declared l.stretches)

abbrev pub decreases-loop-rest : goal.decreases-loop-rest
decreases-loop-rest l = length l.rest
