use Rattle.std.proofs.Common.{◌≡◌, length}
use Rattle.promela_session.specs.Lines.{without_front, is_gap}
use Rattle.session.proofs.choice.trim_gap.Given as goal

abbrev pub invariant-loop-rest : goal.invariant-loop-rest
invariant-loop-rest l = without_front is_gap l.rest ≡ without_front is_gap l.line

abbrev pub decreases-loop-rest : goal.decreases-loop-rest
decreases-loop-rest l = length l.rest
