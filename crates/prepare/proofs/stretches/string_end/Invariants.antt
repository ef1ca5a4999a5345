use Rattle.std.proofs.Common.{◌≡◌, ◌-◌, ◌≤◌, length, drop, false}
use Rattle.prepare.specs.Stretches.{string_end}
use Rattle.prepare.proofs.stretches.string_end.Given as goal

abbrev pub invariant-loop-end : goal.invariant-loop-end
invariant-loop-end l = record {
  same : string_end l.end l.escaped (drop l.end l.text) ≡ string_end l.from false (drop l.from l.text);
  within : l.end ≤ length l.text;
  behind : l.from ≤ l.end;
}

abbrev pub decreases-loop-end : goal.decreases-loop-end
decreases-loop-end l = length l.text - l.end
