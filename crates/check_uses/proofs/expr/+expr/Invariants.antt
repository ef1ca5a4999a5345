use Rattle.std.proofs.Common.{◌≡◌, ◌++◌, map, drop}
use Rattle.check_uses.specs.Parts.{of_step, shapes, steps_marks, of_arguments}
use Rattle.check_uses.proofs.expr.+expr.Given as goal

abbrev pub invariant-arguments-loop-one : goal.invariant-arguments-loop-one
invariant-arguments-loop-one l = l.out ++ of_arguments (drop l.one-index l.all) l.owner ≡ l.initial.out ++ of_arguments l.all l.owner

abbrev pub invariant-reference-loop-field : goal.invariant-reference-loop-field
invariant-reference-loop-field l = record {
  shapes : l.shapes ++ shapes (map of_step (drop l.field-index l.field-items)) ≡ l.initial.shapes ++ shapes (map of_step l.field-items);
  marks : l.out ++ steps_marks (map of_step (drop l.field-index l.field-items)) l.owner ≡ l.initial.out ++ steps_marks (map of_step l.field-items) l.owner;
}
