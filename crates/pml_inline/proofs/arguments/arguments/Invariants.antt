use Rattle.std.proofs.Common.{◌≡◌, ◌≤◌, ◌-◌, drop, take, map, ◌++◌}
use Rattle.promela_text.specs.Inlines.{parts}
use Rattle.pml_inline.specs.Places.{words_of}
use Rattle.pml_inline.specs.Parts.{lists_of}
use Rattle.pml_inline.proofs.Lists.{in_front}
use Rattle.pml_inline.proofs.arguments.arguments.Given as goal

abbrev pub invariant-loop-at : goal.invariant-loop-at
invariant-loop-at l = record {
  here : map (words_of l.tokens) (lists_of l.arguments.items) ++ in_front (words_of l.tokens (take (l.at - l.start) (drop l.start l.inside))) (parts (words_of l.tokens (drop l.at l.inside)) l.level) ≡ parts (words_of l.tokens l.inside) 0;
  level_fits : l.level ≤ l.at;
  start_fits : l.start ≤ l.at;
}
