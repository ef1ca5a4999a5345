use Rattle.std.proofs.Common.{◌≡◌, ℕ, List}
use Rattle.marked_text.specs.Writes.{spot, Goes}
use Rattle.marked_text.proofs.pen.Pen.leave.Given as goal

abbrev pub invariant-loop-left : goal.invariant-loop-left
invariant-loop-left l = record {
  goes : (ns : List (List ℕ)) → Goes ns l.initial.out.items l.out.items (spot l.initial.self) (spot l.self);
  file : l.self.file ≡ l.initial.self.file;
  line : l.self.line ≡ l.initial.self.line;
}

abbrev pub decreases-loop-left : goal.decreases-loop-left
decreases-loop-left l = l.left
