use Rattle.std.proofs.Common.{◌≡◌, ◌≤◌, ◌-◌, ℕ, List, max}
use Rattle.marked_text.specs.Writes.{spot, Goes}
use Rattle.marked_text.proofs.pen.Pen.go_down.Given as goal

abbrev pub invariant-loop-self : goal.invariant-loop-self
invariant-loop-self l = record {
  goes : (ns : List (List ℕ)) → Goes ns l.initial.out.items l.out.items (spot l.initial.self) (spot l.self);
  file : l.self.file ≡ l.initial.self.file;
  up : l.initial.self.line ≤ l.self.line;
  down : l.self.line ≤ max l.initial.self.line l.line;
}

abbrev pub decreases-loop-self : goal.decreases-loop-self
decreases-loop-self l = l.line - l.self.line
