use Rattle.std.proofs.Common.{rules, ◌≡◌, ◌∙◌, ap, sum, map, arith}
use Rattle.promela_run.specs.State.{size}
use Rattle.run_start.specs.Bound.{cells_of}
use Rattle.run_start.proofs.Bounding.{cells_sum}
use Rattle.run_start.proofs.begin.add_frame.Goals as goal

pub push_frame-pushed-requires : goal.push_frame-pushed-requires
push_frame-pushed-requires c =
    let s : c.in_ok-sizes.sizes.items ≡ map size c.args.slots.now = search rules in
    let e : sum c.as_slice.result.now ≡ cells_of c.args.slots.now = ap sum (c.as_slice.ensures.value ∙ s) ∙ cells_sum c.args.slots.now in
    omega (arith, e, c.requires)
