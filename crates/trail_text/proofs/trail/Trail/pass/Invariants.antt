use Rattle.std.proofs.Common.{◌≡◌}
use Rattle.trail_text.specs.Trails.{IsKept}
use Rattle.trail_text.proofs.trail.Trail.pass.Given as goal

abbrev pub invariant-loop-turn : goal.invariant-loop-turn
invariant-loop-turn l = record { kept : IsKept l.fn.self l.self; held : l.self.held ≡ l.fn.self.held }
