use Rattle.std.proofs.Common.{◌≡◌, ◌≤◌, ◌++◌, length, drop}
use Rattle.std.specs.Option.{option_copied}
use Rattle.pml_flow.specs.Inside.{inner_list, inner_arms}
use Rattle.pml_flow.proofs.statements.+statements.Given as goal

abbrev pub invariant-add_steps-loop-left : goal.invariant-add_steps-loop-left
invariant-add_steps-loop-left l = record {
  within : l.left ≤ length l.stmts;
  so_far : l.table ≡ l.fn.table ++ inner_list (option_copied l.next) (drop l.left l.stmts);
}

abbrev pub decreases-add_steps-loop-left : goal.decreases-add_steps-loop-left
decreases-add_steps-loop-left l = l.left

abbrev pub invariant-add_options-loop-left : goal.invariant-add_options-loop-left
invariant-add_options-loop-left l = record {
  within : l.left ≤ length l.options;
  so_far : l.table ≡ l.fn.table ++ inner_arms (option_copied l.next) (drop l.left l.options);
}

abbrev pub decreases-add_options-loop-left : goal.decreases-add_options-loop-left
decreases-add_options-loop-left l = l.left
