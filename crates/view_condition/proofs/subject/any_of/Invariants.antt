use Rattle.std.specs.Prelude.{◌≡◌}
use Rattle.view_condition.specs.Seen.{any_of}
use Rattle.view_condition.proofs.subject.any_of.Given as goal

abbrev pub invariant-loop-process : goal.invariant-loop-process
invariant-loop-process l = l.found ≡ any_of l.live.state l.sort l.spot l.process
