use Rattle.std.proofs.Common.{◌≡◌, true, sym, ◌∙◌, arith, rules}
use Rattle.promela_run.specs.State.{size}
use Rattle.run_start.specs.Known.{is_zero, have_no_initials, known_cells}
use Rattle.run_start.proofs.Elements.{element_there, element_known}
use Rattle.run_start.proofs.Counted.{none_made, cell_counted}
use Rattle.run_start.proofs.counting.count_cells.Goals as goal

pub returns-then-is_zero : goal.returns-then-is_zero
returns-then-is_zero c =
    let t : have_no_initials c.args.beginnings.now.typedefs ≡ true = sym c.are_nothing.ensures ∙ c.if-are_nothing.true in
    let z : is_zero c.args.slot.now.initial ≡ true = sym c.is_zero.ensures ∙ c.if-is_zero.true in
    let n = none_made c.args.beginnings.now.typedefs c.args.slot.now 0 (size c.args.slot.now) t z in
    omega (arith, n, c.requires)

pub index-known-requires : goal.index-known-requires
index-known-requires c =
    let t = rw c.size-cell-end.ensures at c.loop-cell-test.true in
    let e : c.in_ok-element.element.items ≡ known_cells c.args.beginnings.now.typedefs c.args.slot.now c.args.slot.now.stride = search rules in
    let h = element_there c.args.beginnings.now.typedefs c.args.slot.now c.loop-cell.cell c.remainder.result c.in_ok-element.element.items t c.remainder.ensures e in
    omega (arith, h, c.in_ok-element.element.ok)

pub loop-cell-preserved : goal.loop-cell-preserved
loop-cell-preserved c =
    let t = rw c.size-cell-end.ensures at c.loop-cell-test.true in
    let e : c.in_ok-element.element.items ≡ known_cells c.args.beginnings.now.typedefs c.args.slot.now c.args.slot.now.stride = search rules in
    let k = element_known c.args.beginnings.now.typedefs c.args.slot.now c.loop-cell.cell c.remainder.result c.in_ok-element.element.items c.index-known.result.now _ t c.remainder.ensures e c.index-known.ensures in
    record {
      same = cell_counted c.args.beginnings.now.typedefs c.args.slot.now c.loop-cell.cell (size c.args.slot.now) c.loop-cell.count c.count_cell-count.result _ c.index-known.result.now t k c.count_cell-count.ensures c.loop-cell.invariant.same;
      few = omega (arith, c.count_cell-count.ensures);
    }
