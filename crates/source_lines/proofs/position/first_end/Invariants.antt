-- the bytes before the loop's have no line feed among them
use Rattle.std.proofs.Common.{◌≡◌, ◌≤◌, ◌++◌, take, drop}
use Rattle.source_lines.specs.Places.{is_return, trimmed, up_to_feed}
use Rattle.source_lines.proofs.position.first_end.Given as goal

abbrev pub invariant-loop-i : goal.invariant-loop-i
invariant-loop-i l = record {
  within : l.end ≤ l.i;
  is : take l.end l.text ≡ trimmed is_return (take l.i l.text);
  first : up_to_feed l.text ≡ take l.i l.text ++ up_to_feed (drop l.i l.text);
}
