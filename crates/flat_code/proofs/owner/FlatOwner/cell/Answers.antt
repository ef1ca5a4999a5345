use Rattle.std.proofs.Common.{rules, arith, ◌<◌, length}
use Rattle.flat_code.proofs.Starting.{starts_at}
use Rattle.flat_code.proofs.owner.FlatOwner.cell.Goals as goal

pub returns-in-Some : goal.returns-in-Some
returns-in-Some c =
    let l : c.args.variable < length c.self.inside.starts.items = search rules in
    let s = starts_at 0 c.self.inside.slots.now c.self.inside.starts.items c.args.variable c.index.result.now c.self.invariant l in
    let i = c.index.ensures in
    let n = c.in-Some.ensures in
    rw (← c.self.view_is) (omega (arith, c.if-cell-size_at.false, c.size_at.ensures), omega (arith, n, i, s))
