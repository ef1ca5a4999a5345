use Rattle.std.proofs.Common.{◌≡◌, ◌≤◌, ◌++◌, length, drop}
use Rattle.pml_control.specs.Graph.{last_of, posts_list, posts_arms}
use Rattle.pml_control.proofs.graph.+posts.Given as goal

abbrev pub invariant-add_options-loop-left : goal.invariant-add_options-loop-left
invariant-add_options-loop-left l = record {
  within : l.left ≤ length l.options;
  so_far : l.posts.items ≡ l.fn.posts.items ++ posts_arms (last_of l.fn.posts.items) l.after l.out l.inside (drop l.left l.options);
}

abbrev pub decreases-add_options-loop-left : goal.decreases-add_options-loop-left
decreases-add_options-loop-left l = l.left

abbrev pub invariant-add_steps-loop-left : goal.invariant-add_steps-loop-left
invariant-add_steps-loop-left l = record {
  within : l.left ≤ length l.stmts;
  so_far : l.posts.items ≡ l.fn.posts.items ++ posts_list (last_of l.fn.posts.items) l.out l.inside (drop l.left l.stmts);
}

abbrev pub decreases-add_steps-loop-left : goal.decreases-add_steps-loop-left
decreases-add_steps-loop-left l = l.left
