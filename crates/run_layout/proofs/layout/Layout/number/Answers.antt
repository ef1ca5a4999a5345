use Rattle.std.proofs.Common.{arith, sym}
use Rattle.run_layout.proofs.Seeking.{inside, outside, number, count}
use Rattle.run_layout.proofs.layout.Layout.number.Goals as goal

pub returns-then-within-size-clause-slot : goal.returns-then-within-size-clause-slot
returns-then-within-size-clause-slot c =
    let b = c.last_start-number.ensures in
    (inside c.args.self.now c.self.inside.slots.now c.self.inside.starts.items _ _ c.args.cell _ c.index-self-number.result (sym c.self.view_is) c.as_slice-starts.ensures.value c.self.invariant b.there b.begun b.last c.ranges.cell.fits c.index-self-number.is c.size-size.ensures c.if-within-size.true).0

pub returns-then-within-size-clause-cell : goal.returns-then-within-size-clause-cell
returns-then-within-size-clause-cell c =
    let b = c.last_start-number.ensures in
    (inside c.args.self.now c.self.inside.slots.now c.self.inside.starts.items _ _ c.args.cell _ c.index-self-number.result (sym c.self.view_is) c.as_slice-starts.ensures.value c.self.invariant b.there b.begun b.last c.ranges.cell.fits c.index-self-number.is c.size-size.ensures c.if-within-size.true).1

pub returns-then-within-size-clause-number : goal.returns-then-within-size-clause-number
returns-then-within-size-clause-number c =
    let b = c.last_start-number.ensures in
    number c.args.self.now c.self.inside.slots.now c.self.inside.starts.items _ _ c.args.cell _ c.index-self-number.result (sym c.self.view_is) c.as_slice-starts.ensures.value c.self.invariant b.there b.begun b.last c.ranges.cell.fits c.size-size.ensures c.if-within-size.true

pub returns-else-within-size-clause-slot : goal.returns-else-within-size-clause-slot
returns-else-within-size-clause-slot c =
    let b = c.last_start-number.ensures in
    (outside c.args.self.now c.self.inside.slots.now c.self.inside.starts.items _ _ c.args.cell _ c.index-self-number.result (sym c.self.view_is) c.as_slice-starts.ensures.value c.self.invariant b.there b.begun b.last c.ranges.cell.fits c.size-size.ensures (omega (arith, c.if-within-size.false))).0

pub returns-else-within-size-clause-cell : goal.returns-else-within-size-clause-cell
returns-else-within-size-clause-cell c =
    let b = c.last_start-number.ensures in
    (outside c.args.self.now c.self.inside.slots.now c.self.inside.starts.items _ _ c.args.cell _ c.index-self-number.result (sym c.self.view_is) c.as_slice-starts.ensures.value c.self.invariant b.there b.begun b.last c.ranges.cell.fits c.size-size.ensures (omega (arith, c.if-within-size.false))).1

pub returns-else-within-size-clause-number : goal.returns-else-within-size-clause-number
returns-else-within-size-clause-number c =
    let b = c.last_start-number.ensures in
    count c.args.self.now c.self.inside.slots.now c.self.inside.starts.items _ _ c.args.cell _ c.index-self-number.result (sym c.self.view_is) c.as_slice-starts.ensures.value c.self.invariant b.there b.begun b.last c.ranges.cell.fits c.size-size.ensures (omega (arith, c.if-within-size.false))
