use Rattle.std.proofs.Common.{rules, ◌<◌, length}
use Rattle.run_state.proofs.Beginning.{next_stand, next_sort}
use Rattle.run_state.proofs.played.seats_of.Goals as goal

pub loop-sort-preserved : goal.loop-sort-preserved
loop-sort-preserved c =
    let l : c.loop-sort.sort-index < length c.args.sorts.now = search rules in
    let i = c.in_ok-push.ensures.items in
    let b = c.begins.ensures in
    record {
      stands = rw i (next_stand c.args.played.now c.loop-sort.seats.items c.args.sorts.now c.loop-sort.sort-index _ c.begins.result l (search rules) b.stands c.loop-sort.invariant.stands);
      sorts = rw i (next_sort c.loop-sort.seats.items c.args.sorts.now c.loop-sort.sort-index _ c.begins.result l (search rules) b.sort c.loop-sort.invariant.sorts);
    }
