use Rattle.std.proofs.Common.{◌≡◌, ◌≤◌, ◌-◌, length, drop, take, Some, []}
use Rattle.profile.specs.declared.TheConstants.{MOST_REPLACED}
use Rattle.pml_inline.specs.Expansion.{definitions, join_given, texts}
use Rattle.pml_inline.specs.Texts.{inlines, given_of}
use Rattle.pml_inline.proofs.texts.expanded.Given as goal

abbrev pub invariant-loop-at : goal.invariant-loop-at
invariant-loop-at l = record {
  here : join_given (Some (given_of l.given)) (texts (drop l.at l.text.tokens.now) (take l.known (inlines l.text)) (drop l.known (inlines l.text)) l.braces 0) ≡ texts l.text.tokens.now [] (inlines l.text) 0 0;
  defined : definitions (drop l.at l.text.tokens.now) 0 ≡ Some (drop l.known (inlines l.text));
  few : l.given.count ≤ MOST_REPLACED;
  braces_fit : l.braces ≤ l.at;
  known_fits : l.known ≤ length (inlines l.text);
}

abbrev pub decreases-loop-at : goal.decreases-loop-at
decreases-loop-at l = length l.text.tokens.now - l.at
