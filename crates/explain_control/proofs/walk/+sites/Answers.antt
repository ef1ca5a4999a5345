use Rattle.std.proofs.Common.{◌∙◌, ◌++◌, ◌∷◌, [], ap}
use Rattle.explain_control.proofs.Rows.{if_done, do_done, arm_done}
use Rattle.explain_control.proofs.walk.+sites.Goals as goal

pub add_basic-returns-in_ok-push-in-If : goal.add_basic-returns-in_ok-push-in-If
add_basic-returns-in_ok-push-in-If t c =
    if_done c.args.offset c.args.basic.now c.in-If.options c.as_slice-in-If.result.now c.args.sites.now.items c.add_options.new.sites.items c.push-in-If.new.self.items c.as_slice-in-If.ensures c.in_ok-push-in-If.ensures.items c.in-If.is c.in_ok-add_options-in-If.ensures

pub add_basic-returns-in_ok-push-in-Do-2 : goal.add_basic-returns-in_ok-push-in-Do-2
add_basic-returns-in_ok-push-in-Do-2 t c =
    do_done c.args.offset c.args.basic.now c.in-Do.options c.as_slice-in-Do.result.now c.args.sites.now.items c.add_options-in-Do.new.sites.items c.push-in-Do-2.new.self.items c.as_slice-in-Do.ensures c.in_ok-push-in-Do-2.ensures.items
    c.push-in-Do.new.self.items c.requires (c.in_ok-push-in-Do.ensures.items ∙ ap (λ x. c.args.sites.now.items ++ x ∷ []) c.bare.ensures) c.in-Do.is c.in_ok-add_options-in-Do.ensures

pub add_arm-returns : goal.add_arm-returns
add_arm-returns t c =
    arm_done c.args.seq.now c.args.sites.now.items c.push.new.self.items c.add_steps.new.sites.items c.bare.result c.as_slice.result.now c.requires c.bare.ensures c.in_ok-push.ensures.items c.as_slice.ensures c.in_ok-add_steps.ensures
