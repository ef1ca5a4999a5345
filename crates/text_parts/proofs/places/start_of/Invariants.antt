use Rattle.std.proofs.Common.{◌≡◌, ◌+◌, drop}
use Rattle.text_parts.specs.Offsets.{start_of}
use Rattle.text_parts.proofs.places.start_of.Given as goal

abbrev pub invariant-loop-i : goal.invariant-loop-i
invariant-loop-i l = l.i + start_of l.left (drop l.i l.text) ≡ start_of l.fn.lines l.text
