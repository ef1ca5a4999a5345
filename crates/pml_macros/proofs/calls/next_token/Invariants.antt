use Rattle.std.proofs.Common.{◌≤◌, List, length, reverse}
use Rattle.pml_macros.specs.declared.atom.Atom.{Atom}
use Rattle.pml_macros.specs.Calls.{Known, Comes}
use Rattle.pml_macros.proofs.calls.next_token.Given as goal

abbrev pub invariant-loop-item : goal.invariant-loop-item
invariant-loop-item l = record {
  few : length l.pending.items.items ≤ length l.fn.pending.items.items;
  gives : (ms : Known) (us : List Atom) → Comes ms l.pending.active.items (reverse l.pending.items.items) us → Comes ms l.fn.pending.active.items (reverse l.fn.pending.items.items) us;
}

abbrev pub decreases-loop-item : goal.decreases-loop-item
decreases-loop-item l = length l.pending.items.items
