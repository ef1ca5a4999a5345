use Rattle.std.proofs.Common.{◌≡◌, ◌≤◌, ◌+◌, length, reverse}
use Rattle.pml_macros.specs.Calls.{known, tokens, ArePlain, Gives}
use Rattle.pml_macros.proofs.Reading.{AreRead}
use Rattle.pml_macros.proofs.calls.+read.Given as goal

abbrev pub decreases-read : goal.decreases-read
decreases-read l = l.room

abbrev pub invariant-loop-atom : goal.invariant-loop-atom
invariant-loop-atom l = record {
  few : l.work.left ≤ l.fn.work.left;
  whole : ArePlain (known l.table) → Gives (known l.table) l.fn.active (tokens l.atoms) l.out.items l.pending.active.items (reverse l.pending.items.items);
}

abbrev pub invariant-loop-number : goal.invariant-loop-number
invariant-loop-number l = record {
  few : l.work.left ≤ l.initial.work.left;
  same : length l.all.items ≡ l.number;
  read : ArePlain (known l.table) → AreRead (known l.table) l.pending.active.items l.atom.text l.arguments.items l.all.items l.number;
}

abbrev pub decreases-loop-atom : goal.decreases-loop-atom
decreases-loop-atom l = l.work.left + length l.pending.items.items
