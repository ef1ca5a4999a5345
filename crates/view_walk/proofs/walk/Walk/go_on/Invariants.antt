-- the same choices of the same model, of which one more stands each time
use Rattle.std.specs.Prelude.{◌≡◌, ◌≤◌, false}
use Rattle.view_walk.specs.Walks.{SameModel}
use Rattle.view_walk.proofs.walk.Walk.go_on.Given as goal

abbrev pub invariant-loop-at : goal.invariant-loop-at
invariant-loop-at l = SameModel l.fn.self l.self × (l.self.legs ≡ l.fn.self.legs) × (l.self.is_lost ≡ false) × (l.self.at ≡ l._at) × (l._at ≤ l.step)
