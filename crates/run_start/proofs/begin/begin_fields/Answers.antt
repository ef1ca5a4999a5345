use Rattle.std.proofs.Common.{◌≡◌, Err, true, refl, sym, ◌∙◌, arith, rules}
use Rattle.promela_run.specs.State.{size}
use Rattle.run_start.specs.Shown.{shown}
use Rattle.run_start.specs.Known.{is_zero, have_no_initials, known_cells}
use Rattle.run_start.proofs.Shapes.{cell_there, keeps-then}
use Rattle.run_start.proofs.Stepping.{fields_made, fields_stopped}
use Rattle.run_start.proofs.Elements.{element_there, element_known}
use Rattle.run_start.proofs.Zeroed.{nothing_begun}
use Rattle.run_start.proofs.begin.begin_fields.Goals as goal

pub returns-then-is_zero-clause-value : goal.returns-then-is_zero-clause-value
returns-then-is_zero-clause-value c =
    let t : have_no_initials c.args.beginnings.now.typedefs ≡ true = sym c.are_nothing.ensures ∙ c.if-are_nothing.true in
    let z : is_zero c.args.slot.now.initial ≡ true = sym c.is_zero.ensures ∙ c.if-is_zero.true in
    rw (nothing_begun c.args.beginnings.now.typedefs c.args.slot.now c.args.variable 0 (size c.args.slot.now) (shown c.args.started.now) t z) refl

pub index-known-requires : goal.index-known-requires
index-known-requires c =
    let t = rw c.size-cell-end.ensures at c.loop-cell-test.true in
    let e : c.in_ok-element.element.items ≡ known_cells c.args.beginnings.now.typedefs c.args.slot.now c.args.slot.now.stride = search rules in
    let h = element_there c.args.beginnings.now.typedefs c.args.slot.now c.loop-cell.cell c.remainder.result c.in_ok-element.element.items t c.remainder.ensures e in
    omega (arith, h, c.in_ok-element.element.ok)

pub begin_known-requires-clause-known : goal.begin_known-requires-clause-known
begin_known-requires-clause-known c =
    let t = rw c.size-cell-end.ensures at c.loop-cell-test.true in
    let e : c.in_ok-element.element.items ≡ known_cells c.args.beginnings.now.typedefs c.args.slot.now c.args.slot.now.stride = search rules in
    element_known c.args.beginnings.now.typedefs c.args.slot.now c.loop-cell.cell c.remainder.result c.in_ok-element.element.items c.index-known.result.now _ t c.remainder.ensures e c.index-known.ensures

pub begin_known-requires-clause-there : goal.begin_known-requires-clause-there
begin_known-requires-clause-there c =
    let t = rw c.size-cell-end.ensures at c.loop-cell-test.true in
    cell_there _ _ _ _ _ c.loop-cell.invariant.keeps c.requires t

pub returns-in_err-begin_known-clause-value : goal.returns-in_err-begin_known-clause-value
returns-in_err-begin_known-clause-value c =
    let r : c.from_residual-in_err-begin_known.result ≡ Err c.in_err-begin_known.field-0.0 = search rules in
    let t = rw c.size-cell-end.ensures at c.loop-cell-test.true in
    rw r (fields_stopped c.args.beginnings.now.typedefs c.args.slot.now c.args.variable c.loop-cell.cell (size c.args.slot.now) (shown c.loop-cell.started) _ _ _ _ t c.loop-cell.invariant.same c.in_err-begin_known.ensures.value)

pub loop-cell-preserved : goal.loop-cell-preserved
loop-cell-preserved c =
    let t = rw c.size-cell-end.ensures at c.loop-cell-test.true in
    record {
      same = fields_made c.args.beginnings.now.typedefs c.args.slot.now c.args.variable c.loop-cell.cell (size c.args.slot.now) (shown c.loop-cell.started) (shown c.begin_known.new.started) _ _ t c.loop-cell.invariant.same c.in_ok-begin_known.ensures.value;
      keeps = keeps-then _ _ _ c.loop-cell.invariant.keeps c.in_ok-begin_known.ensures.keeps;
    }
