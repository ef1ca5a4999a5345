use Rattle.trail_text.specs.Trails.{IsKept}
use Rattle.trail_text.proofs.trail.Trail.pass_seen.Given as goal

abbrev pub invariant-loop-turn : goal.invariant-loop-turn
invariant-loop-turn l = IsKept l.fn.self l.self
