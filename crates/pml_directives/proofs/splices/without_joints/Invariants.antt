use Rattle.std.proofs.Common.{◌≡◌, ◌≤◌, ◌+◌, length, take, drop}
use Rattle.pml_directives.specs.Places.{AreOf, place_behind}
use Rattle.pml_directives.proofs.splices.without_joints.Given as goal

abbrev pub invariant-loop-rest : goal.invariant-loop-rest
invariant-loop-rest l = record {
  here : l.rest ≡ drop l.place.offset l.text;
  long : l.place.offset + length l.rest ≡ length l.text;
  low : l.place.line ≤ l.place.offset + 1;
  narrow : l.place.column ≤ l.place.offset + 1;
  place : l.place ≡ place_behind l.file (take l.place.offset l.text);
  of : AreOf l.file l.text l.bytes.items l.places.items;
}

abbrev pub decreases-loop-rest : goal.decreases-loop-rest
decreases-loop-rest l = length l.rest
