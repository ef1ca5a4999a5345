use Rattle.std.proofs.Common.{rules, ◌≡◌, ◌++◌, ◌<◌, length, map, arith}
use Rattle.pml_value.specs.Seen.{seen}
use Rattle.run_state.specs.Standing.{shows, edges_at}
use Rattle.view_waits.specs.Waits.{waits_on}
use Rattle.view_waits.proofs.Adding.{level_more}
use Rattle.view_waits.proofs.waits.add_offers.Goals as goal

pub loop-level-preserved : goal.loop-level-preserved
loop-level-preserved c =
    let below : c.loop-level.level < length (edges_at c.args.body.now c.args.node) = omega (arith, c.loop-level-test.true, c.level_count-level-end.ensures) in
    let added : c.add_level.new.waits.items
    ≡ c.loop-level.waits.items ++ waits_on c.args.view.now.channels.now (seen c.args.view.now) c.args.process c.loop-level.level (map (shows c.args.body.now) c.level.result.now) =
    search (rules, c.in_ok-add_level.ensures) in
    level_more _ _ c.args.process c.args.body.now c.args.node c.loop-level.level c.level.result.now _ _ _ c.level.ensures below c.loop-level.invariant added
