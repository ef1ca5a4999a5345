use Rattle.std.proofs.Common.{rules, ◌≡◌, ◌++◌, ◌<◌, ◌≤◌}
use Rattle.run_search.specs.Round.{round_at}
use Rattle.run_search.proofs.Together.{one_behind}
use Rattle.run_search.proofs.Keeping.{kept_on}
use Rattle.run_search.proofs.runs.add_each.Goals as goal

pub loop-process-preserved : goal.loop-process-preserved
loop-process-preserved c =
    let r = c.args.round.now in
    let n = c.loop-process.process in
    let low : c.args.first ≤ n = search rules in
    let high : n < c.args.end = search rules in
    let added : c.add_moves_asked.new.moves.items ≡ c.loop-process.moves.items ++ round_at r n c.args.seat = search (rules, c.in_ok-add_moves_asked.ensures) in
    record {
      same = one_behind r c.args.seat n c.add_moves_asked.new.moves.items c.loop-process.moves.items _ (c.requires.there n low high) added c.loop-process.invariant.same;
      kept = kept_on c.add_moves_asked.new.moves.items c.loop-process.moves.items c.args.moves.now.items c.add_moves_asked.ensures.kept c.loop-process.invariant.kept;
    }
