use Rattle.std.specs.Prelude.{◌≡◌}
use Rattle.view_condition.specs.Seen.{any_at}
use Rattle.view_condition.proofs.subject.any_at.Given as goal

abbrev pub invariant-loop-process : goal.invariant-loop-process
invariant-loop-process l = l.found ≡ any_at l.live.state l.line l.process
