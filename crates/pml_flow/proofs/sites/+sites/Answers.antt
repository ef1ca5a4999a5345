use Rattle.std.proofs.Common.{◌≡◌, ◌<◌, ◌+◌, ◌-◌, ◌++◌, ◌∙◌, None, false, sym, ap, arith, drop, length, get_or, refl}
use Rattle.pml_flow.specs.Ways.{bare, last_of, ways_in, ways_arms, sites_in, sites_list, sites_arms}
use Rattle.pml_flow.proofs.Making.{if_sites, if_ways, do_sites, do_ways, step_ways, step_sites, escape_room, escape_sites, unless_sites, unless_ways, arm_sites, arm_ways, list_sites, list_ways, arms_sites, arms_ways}
use Rattle.pml_flow.proofs.sites.+sites.Goals as goal

pub add_basic-returns-in_ok-add_own-in-If-clause-sites : goal.add_basic-returns-in_ok-add_own-in-If-clause-sites
add_basic-returns-in_ok-add_own-in-If-clause-sites t c =
    if_sites c.args.inside c.args.atomic c.args.above.now c.args.basic.now c.in-If.options c.as_slice-in-If.result.now c.args.sites.now.items c.add_options.new.sites.items c.add_own.new.sites.items c.in_ok-ways-in-If.ways.items c.as_slice-in-If-2.result.now _ c.requires c.as_slice-in-If.ensures c.as_slice-in-If-2.ensures.value refl c.in_ok-add_own-in-If.ensures c.in-If.is c.in_ok-ways-in-If.ensures.sites c.in_ok-ways-in-If.ensures.ways

pub add_basic-returns-in_ok-add_own-in-If-clause-ways : goal.add_basic-returns-in_ok-add_own-in-If-clause-ways
add_basic-returns-in_ok-add_own-in-If-clause-ways t c =
    if_ways c.args.inside c.args.atomic c.args.above.now c.args.basic.now c.in-If.options c.as_slice-in-If.result.now c.args.sites.now.items c.add_options.new.sites.items c.add_own.new.sites.items c.in_ok-ways-in-If.ways.items c.as_slice-in-If-2.result.now (bare None false) c.as_slice-in-If.ensures c.in-If.is c.in_ok-ways-in-If.ensures.ways

pub add_basic-returns-in_ok-push-in-Do-2-clause-sites : goal.add_basic-returns-in_ok-push-in-Do-2-clause-sites
add_basic-returns-in_ok-push-in-Do-2-clause-sites t c =
    do_sites c.args.inside c.args.atomic c.args.above.now c.args.basic.now c.in-Do.options c.as_slice-in-Do.result.now c.args.sites.now.items c.add_options-in-Do.new.sites.items c.push-in-Do.new.self.items c.in_ok-ways-in-Do.ways.items c.as_slice-in-Do-2.result.now c.in_ok-own-in-Do.own c.push.new.self.items c.set_site.new.sites.items c.bare.result c.bare-in-Do.result c.last-after.result c.requires (c.last-after.ensures ∙ ap last_of c.as_slice.ensures.value) c.bare.ensures c.in_ok-push-in-Do.ensures.items c.as_slice-in-Do.ensures c.as_slice-in-Do-2.ensures.value c.in_ok-own-in-Do.ensures c.set_site.ensures c.bare-in-Do.ensures c.in_ok-push-in-Do-2.ensures.items c.in-Do.is c.in_ok-ways-in-Do.ensures.sites c.in_ok-ways-in-Do.ensures.ways

pub add_basic-returns-in_ok-push-in-Do-2-clause-ways : goal.add_basic-returns-in_ok-push-in-Do-2-clause-ways
add_basic-returns-in_ok-push-in-Do-2-clause-ways t c =
    do_ways c.args.inside c.args.atomic c.args.above.now c.args.basic.now c.in-Do.options c.as_slice-in-Do.result.now c.args.sites.now.items c.add_options-in-Do.new.sites.items c.push-in-Do.new.self.items c.in_ok-ways-in-Do.ways.items c.as_slice-in-Do-2.result.now c.in_ok-own-in-Do.own c.push.new.self.items c.bare.result c.requires c.in_ok-push-in-Do.ensures.items c.as_slice-in-Do.ensures c.in-Do.is c.in_ok-ways-in-Do.ensures.ways

pub add_d_step-returns-clause-sites : goal.add_d_step-returns-clause-sites
add_d_step-returns-clause-sites t c =
    step_sites c.args.atomic c.args.above.now c.none.result.now c.args.body.now c.args.sites.now.items c.add_arm.new.sites.items c.last-first.result c.last-after.result c.in_ok-ways.ways.items c.requires c.none.ensures c.in_ok-entered.ensures.sites (c.last-first.ensures ∙ ap last_of c.as_slice-2.ensures.value) (c.last-after.ensures ∙ ap last_of c.as_slice.ensures.value) c.in_ok-ways.ensures c.args.inside c.as_slice-3.result.now _ c.add_own.new.sites.items c.if-inside.false c.as_slice-3.ensures.value refl c.in_ok-add_own.ensures

pub add_d_step-returns-clause-ways : goal.add_d_step-returns-clause-ways
add_d_step-returns-clause-ways t c =
    step_ways c.args.atomic c.args.above.now c.none.result.now c.args.body.now c.args.sites.now.items c.add_arm.new.sites.items c.last-first.result c.last-after.result c.in_ok-ways.ways.items c.requires c.none.ensures c.in_ok-entered.ensures.sites (c.last-first.ensures ∙ ap last_of c.as_slice-2.ensures.value) (c.last-after.ensures ∙ ap last_of c.as_slice.ensures.value) c.in_ok-ways.ensures c.args.inside c.if-inside.false

pub add_escape-set_site-requires : goal.add_escape-set_site-requires
add_escape-set_site-requires t c =
    escape_room c.args.inside c.args.atomic c.args.above.now c.args.escape.now c.args.sites.now.items c.add_arm.new.sites.items c.last-end.result c.requires (c.last-end.ensures ∙ ap last_of c.as_slice.ensures.value) c.in_ok-ways.ensures.sites

pub add_escape-returns-clause-sites : goal.add_escape-returns-clause-sites
add_escape-returns-clause-sites t c =
    escape_sites c.args.inside c.args.atomic c.args.above.now c.args.escape.now c.args.sites.now.items c.add_arm.new.sites.items c.set_site.new.sites.items c.requires c.in_ok-own.own c.in_ok-ways.ways.items c.as_slice-2.result.now c.none.result.now c.last-end.result (c.last-end.ensures ∙ ap last_of c.as_slice.ensures.value) c.in_ok-ways.ensures.sites c.in_ok-ways.ensures.ways c.as_slice-2.ensures.value c.none.ensures c.in_ok-own.ensures c.set_site.ensures

pub add_arm-returns-clause-sites : goal.add_arm-returns-clause-sites
add_arm-returns-clause-sites t c =
    arm_sites c.args.inside c.args.atomic c.args.above.now c.args.seq.now c.args.sites.now.items c.push.new.self.items c.bare.result c.as_slice.result.now c.requires c.bare.ensures c.in_ok-push.ensures.items c.as_slice.ensures c.add_steps.new.sites.items c.in_ok-add_steps.ensures.sites

pub add_arm-returns-clause-ways : goal.add_arm-returns-clause-ways
add_arm-returns-clause-ways t c =
    arm_ways c.args.inside c.args.atomic c.args.above.now c.args.seq.now c.args.sites.now.items c.push.new.self.items c.bare.result c.as_slice.result.now c.requires c.bare.ensures c.in_ok-push.ensures.items c.as_slice.ensures c.in_ok-add_steps.field-0.items c.in_ok-add_steps.ensures.ways

pub add_basic-returns-in_ok-add_copies-in-Unless-clause-sites : goal.add_basic-returns-in_ok-add_copies-in-Unless-clause-sites
add_basic-returns-in_ok-add_copies-in-Unless-clause-sites t c =
    unless_sites c.args.inside c.args.atomic c.args.above.now c.in-Unless.main c.in-Unless.escape c.args.sites.now.items c.add_escape.new.sites.items c.add_arm.new.sites.items c.in_ok-escaped-in-Unless.escaped.items c.in_ok-ways-in-Unless.ways.items c.in_ok-over-in-Unless.over.items c.as_slice-in-Unless.result.now c.last-after.result c.requires (c.last-after.ensures ∙ ap last_of c.as_slice.ensures.value) c.in_ok-escaped-in-Unless.ensures.sites c.in_ok-escaped-in-Unless.ensures.ways c.bare-in-Unless.result c.push-in-Unless.new.self.items c.in_ok-over-in-Unless.ensures c.as_slice-in-Unless.ensures.value c.in_ok-ways-in-Unless.ensures.sites c.bare-in-Unless.ensures c.in_ok-push-in-Unless.ensures.items
    ∙ ap (λ b. c.args.sites.now.items ++ sites_in (last_of c.args.sites.now.items) c.args.inside c.args.atomic c.args.above.now b) (sym c.in-Unless.is)

pub add_basic-returns-in_ok-add_copies-in-Unless-clause-ways : goal.add_basic-returns-in_ok-add_copies-in-Unless-clause-ways
add_basic-returns-in_ok-add_copies-in-Unless-clause-ways t c =
    unless_ways c.args.inside c.args.atomic c.args.above.now c.in-Unless.main c.in-Unless.escape c.args.sites.now.items c.add_escape.new.sites.items c.add_arm.new.sites.items c.in_ok-escaped-in-Unless.escaped.items c.in_ok-ways-in-Unless.ways.items c.in_ok-over-in-Unless.over.items c.as_slice-in-Unless.result.now c.last-after.result c.requires (c.last-after.ensures ∙ ap last_of c.as_slice.ensures.value) c.in_ok-escaped-in-Unless.ensures.sites c.in_ok-escaped-in-Unless.ensures.ways c.as_slice-in-Unless-2.result.now c.add_copies.new.levels.items c.in_ok-ways-in-Unless.ensures.ways c.as_slice-in-Unless-2.ensures.value c.in_ok-add_copies-in-Unless.ensures
    ∙ ap (λ b. ways_in (last_of c.args.sites.now.items) c.args.inside b) (sym c.in-Unless.is)

pub add_steps-loop-left-preserved : goal.add_steps-loop-left-preserved
add_steps-loop-left-preserved t c =
    let e : c.loop-left.left ≡ (c.loop-left.left - 1) + 1 = omega (arith, c.loop-left-test.true) in
    let l : c.loop-left.left - 1 < length c.args.stmts.now = omega (arith, c.loop-left-test.true, c.loop-left.invariant.within) in
    let h = c.loop-left.invariant.so_far ∙ ap (λ n. c.args.sites.now.items ++ sites_list (last_of c.args.sites.now.items) c.args.inside c.args.atomic c.args.above.now (drop n c.args.stmts.now)) e in
    record {
      within = omega (arith, l);
      so_far = list_sites c.args.inside c.args.atomic c.args.above.now c.args.stmts.now (c.loop-left.left - 1) (get_or c.args.stmts.now (c.loop-left.left - 1) c.index-stmts-left.result) c.index-stmts-left.result c.args.sites.now.items c.loop-left.sites.items c.add_basic.new.sites.items c.requires l refl h c.in_ok-ways.ensures.sites;
      first = list_ways c.args.inside c.args.atomic c.args.above.now c.args.stmts.now (c.loop-left.left - 1) (get_or c.args.stmts.now (c.loop-left.left - 1) c.index-stmts-left.result) c.index-stmts-left.result c.args.sites.now.items c.loop-left.sites.items c.add_basic.new.sites.items c.requires l refl h c.in_ok-ways.ways.items c.in_ok-ways.ensures.ways;
    }

pub add_options-loop-left-preserved : goal.add_options-loop-left-preserved
add_options-loop-left-preserved t c =
    let e : c.loop-left.left ≡ (c.loop-left.left - 1) + 1 = omega (arith, c.loop-left-test.true) in
    let l : c.loop-left.left - 1 < length c.args.options.now = omega (arith, c.loop-left-test.true, c.loop-left.invariant.within) in
    let h = c.loop-left.invariant.so_far ∙ ap (λ n. c.args.sites.now.items ++ sites_arms (last_of c.args.sites.now.items) c.args.inside c.args.atomic c.args.above.now (drop n c.args.options.now)) e in
    let w = c.loop-left.invariant.first ∙ ap (λ n. ways_arms (last_of c.args.sites.now.items) c.args.inside (drop n c.args.options.now)) e in
    record {
      within = omega (arith, l);
      so_far = arms_sites c.args.inside c.args.atomic c.args.above.now c.args.options.now (c.loop-left.left - 1) c.index-options-left.result c.args.sites.now.items c.loop-left.sites.items c.add_arm.new.sites.items c.requires l c.index-options-left.is h c.in_ok-more.ensures.sites;
      first = arms_ways c.args.inside c.args.atomic c.args.above.now c.args.options.now (c.loop-left.left - 1) c.index-options-left.result c.args.sites.now.items c.loop-left.sites.items c.add_arm.new.sites.items c.requires l c.index-options-left.is h c.loop-left.ways.items c.in_ok-more.more.items c.as_slice.result.now c.add_levels.new.levels.items w c.in_ok-more.ensures.ways c.as_slice.ensures.value c.in_ok-add_levels.ensures;
    }
