use Rattle.std.proofs.Common.{ap, ◌∙◌}
use Rattle.pml_control.specs.Graph.{last_of}
use Rattle.pml_control.proofs.Rows.{if_done, do_done, arm_done}
use Rattle.pml_control.proofs.graph.+posts.Goals as goal

pub add_basic-returns-in_ok-push-in-If : goal.add_basic-returns-in_ok-push-in-If
add_basic-returns-in_ok-push-in-If t c =
    if_done c.args.labels.now c.args.out c.args.inside c.args.basic.now c.in-If.options c.as_slice-in-If.result.now c.args.posts.now.items c.add_options.new.posts.items c.push-in-If.new.self.items c.last-after.result c.in_ok-stay-in-If.field-0 (c.last-after.ensures ∙ ap last_of c.as_slice.ensures.value) c.as_slice-in-If.ensures c.in_ok-push-in-If.ensures.items c.in_ok-stay-in-If.ensures c.in-If.is c.in_ok-add_options-in-If.ensures

pub add_basic-returns-in_ok-push-in-Do-2 : goal.add_basic-returns-in_ok-push-in-Do-2
add_basic-returns-in_ok-push-in-Do-2 t c =
    do_done c.args.labels.now c.args.out c.args.inside c.args.basic.now c.in-Do.options c.as_slice-in-Do.result.now c.args.posts.now.items c.add_options-in-Do.new.posts.items c.push-in-Do-2.new.self.items c.last-after.result c.in_ok-pass-in-Do.field-0 (c.last-after.ensures ∙ ap last_of c.as_slice.ensures.value) c.as_slice-in-Do.ensures c.in_ok-push-in-Do-2.ensures.items c.in_ok-pass-in-Do.ensures c.push-in-Do.new.self.items c.bare_stay.result c.requires c.bare_stay.ensures c.in_ok-push-in-Do.ensures.items c.in-Do.is c.in_ok-add_options-in-Do.ensures

pub add_arm-returns : goal.add_arm-returns
add_arm-returns t c =
    arm_done c.args.after c.args.out c.args.inside c.args.seq.now c.args.posts.now.items c.push.new.self.items c.add_steps.new.posts.items c.bare_pass.result c.as_slice.result.now c.requires c.bare_pass.ensures c.in_ok-push.ensures.items c.as_slice.ensures c.in_ok-add_steps.ensures
