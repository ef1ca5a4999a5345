use Rattle.std.proofs.Common.{arith, sym}
use Rattle.run_layout.proofs.Walking.{ends, goes}
use Rattle.run_layout.proofs.cursor.Cursor.next.Goals as goal

pub returns-in-None-clause-end : goal.returns-in-None-clause-end
returns-in-None-clause-end c =
    let v = sym c.self.view_is in
    let w = rw v at c.requires.way in
    rw v (ends c.self.inside.typedefs.now c.self.inside.slot.now c.args.stage c.args.cell c.remainder-at.result _ w c.requires.first c.requires.last c.remainder-at.ensures c.place-typedef.ensures.field c.in-None.ensures)

pub returns-clause-way : goal.returns-clause-way
returns-clause-way c =
    let v = sym c.self.view_is in
    let w = rw v at c.requires.way in
    rw v (goes c.self.inside.typedefs.now c.self.inside.slot.now c.in-Some.field.now c.args.stage c.place-typedef.result.0 c.place-typedef.result.1 c.args.cell c.remainder-at.result _ c.min-more.result _ w c.requires.first c.remainder-at.ensures c.place-typedef.ensures.field c.in-Some.ensures c.place-typedef.ensures.cell
    (omega arith) (omega arith) (omega arith) (omega arith) (omega arith) (omega arith))
