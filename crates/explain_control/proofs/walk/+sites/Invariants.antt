use Rattle.std.proofs.Common.{◌≡◌, ◌≤◌, ◌++◌, length, drop}
use Rattle.explain_control.specs.Sites.{last_of, sites_list, sites_arms}
use Rattle.explain_control.proofs.walk.+sites.Given as goal

abbrev pub invariant-add_options-loop-left : goal.invariant-add_options-loop-left
invariant-add_options-loop-left l = record {
  within : l.left ≤ length l.options;
  so_far : l.sites.items ≡ l.fn.sites.items ++ sites_arms (last_of l.fn.sites.items) (drop l.left l.options);
}

abbrev pub decreases-add_options-loop-left : goal.decreases-add_options-loop-left
decreases-add_options-loop-left l = l.left

abbrev pub invariant-add_steps-loop-left : goal.invariant-add_steps-loop-left
invariant-add_steps-loop-left l = record {
  within : l.left ≤ length l.stmts;
  so_far : l.sites.items ≡ l.fn.sites.items ++ sites_list (last_of l.fn.sites.items) (drop l.left l.stmts);
}

abbrev pub decreases-add_steps-loop-left : goal.decreases-add_steps-loop-left
decreases-add_steps-loop-left l = l.left
