use Rattle.std.specs.Option.{option_copied}
use Rattle.std.proofs.Common.{◌≡◌, ◌<◌, ◌+◌, ◌-◌, ◌++◌, ◌∙◌, ap, arith, drop, length}
use Rattle.pml_flow.specs.Inside.{inner_list}
use Rattle.pml_flow.proofs.Stating.{done_if, done_do, done_arm, one_more}
use Rattle.pml_flow.proofs.statements.+statements.Goals as goal

pub add_inner-returns-in_ok-add_options-in-If : goal.add_inner-returns-in_ok-add_options-in-If
add_inner-returns-in_ok-add_options-in-If t c =
    done_if (option_copied c.args.next) c.args.stmt.now c.args.stmt.now.basic c.in-If.options c.as_slice.result.now c.args.table.now c.add_options.new.table c.as_slice.ensures c.in-If.is c.in_ok-add_options-in-If.ensures

pub add_inner-returns-in_ok-add_options-in-Do : goal.add_inner-returns-in_ok-add_options-in-Do
add_inner-returns-in_ok-add_options-in-Do t c =
    done_do (option_copied c.args.next) c.args.stmt.now c.args.stmt.now.basic c.in-Do.options c.as_slice-in-Do.result.now c.args.table.now c.add.new.self c.add_options-in-Do.new.table c.as_slice-in-Do.ensures c.in-Do.is c.in_ok-add-in-Do.ensures c.in_ok-add_options-in-Do.ensures

pub add_steps-loop-left-preserved : goal.add_steps-loop-left-preserved
add_steps-loop-left-preserved t c =
    let l : c.loop-left.left - 1 < length c.args.stmts.now = omega (arith, c.loop-left-test.true, c.loop-left.invariant.within) in
    let e : c.loop-left.left ≡ (c.loop-left.left - 1) + 1 = omega (arith, c.loop-left-test.true) in
    let h = c.loop-left.invariant.so_far ∙ ap (λ n. c.args.table.now ++ inner_list (option_copied c.args.next) (drop n c.args.stmts.now)) e in
    record {
      within = omega (arith, l);
      so_far = one_more (option_copied c.args.next) (option_copied c.follower.result) c.args.stmts.now (c.loop-left.left - 1) c.index-stmts-left.result c.index-stmts-left.result c.args.table.now c.loop-left.table c.add_inner.new.table c.add.new.self l c.index-stmts-left.is c.follower.ensures h c.in_ok-add_inner.ensures c.in_ok-add.ensures;
    }

pub add_arm-returns : goal.add_arm-returns
add_arm-returns t c =
    done_arm (option_copied c.args.next) c.args.seq.now c.as_slice.result.now c.args.table.now c.add.new.self c.add_steps.new.table c.as_slice.ensures c.in_ok-add.ensures c.in_ok-add_steps.ensures
