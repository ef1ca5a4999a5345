use Rattle.std.proofs.Common.{◌≡◌, ◌≤◌, ◌-◌, length, drop, Some}
use Rattle.profile.specs.declared.TheConstants.{MOST_CALLS, MOST_REPLACED}
use Rattle.pml_inline.specs.Expansion.{join_given}
use Rattle.pml_inline.specs.Texts.{read_within, given_of}
use Rattle.pml_inline.proofs.calls.+read.Given as goal

abbrev pub invariant-loop-at : goal.invariant-loop-at
invariant-loop-at l = record {
  same : l.active.items ≡ l.fn.active.items;
  here : join_given (Some (given_of l.given)) (read_within l.text l.known l.fn.active.items (drop l.at l.places)) ≡ join_given (Some (given_of l.fn.given)) (read_within l.text l.known l.fn.active.items l.places);
  few : l.given.count ≤ MOST_REPLACED;
  within : l.at ≤ length l.places;
}

abbrev pub decreases-loop-at : goal.decreases-loop-at
decreases-loop-at l = length l.places - l.at

abbrev pub decreases-read : goal.decreases-read
decreases-read l = MOST_CALLS - length l.active.now.items
