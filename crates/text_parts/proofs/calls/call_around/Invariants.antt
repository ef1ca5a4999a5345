use Rattle.std.proofs.Common.{◌≡◌, ◌≤◌, ◌+◌, length, drop}
use Rattle.text_parts.specs.Calls.{counted, read}
use Rattle.text_parts.proofs.calls.call_around.Given as goal

abbrev pub invariant-loop-i : goal.invariant-loop-i
invariant-loop-i l = record {
  few : counted l.back + l.i ≤ length l.tokens;
  is : l.back ≡ read (drop l.i l.tokens);
}
