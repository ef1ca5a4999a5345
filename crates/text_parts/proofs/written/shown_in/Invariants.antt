use Rattle.std.proofs.Common.{◌≡◌, ◌≤◌, ◌+◌, drop}
use Rattle.text_parts.specs.Written.{shown_in}
use Rattle.text_parts.proofs.written.shown_in.Given as goal

abbrev pub invariant-loop-i : goal.invariant-loop-i
invariant-loop-i l = record {
  few : l.count ≤ l.i;
  rest : l.count + shown_in (drop l.i l.bytes) ≡ shown_in l.bytes;
}
