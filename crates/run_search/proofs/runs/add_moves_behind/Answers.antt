use Rattle.std.proofs.Common.{rules, ◌≡◌, ◌++◌, ◌+◌, ◌<◌, ◌≤◌, List, length, map, take, drop, ap, arith}
use Rattle.promela_run.specs.declared.moves.Move.{Move}
use Rattle.common_offers.specs.Offers.{by_process}
use Rattle.run_search.proofs.Keeping.{kept_on}
use Rattle.run_search.proofs.Together.{all_silent, one_shared}
use Rattle.run_search.proofs.runs.add_moves_behind.Goals as goal

pub returns-then-begin-behind-clause-added : goal.returns-then-begin-behind-clause-added
returns-then-begin-behind-clause-added c =
    let ms : List Move = c.args.moves.now.items in
    let all : c.args.begin ≡ length ms = search (rules, c.if-begin-behind.true, c.len-behind.ensures) in
    ap (λ (xs : List Move). ms ++ xs)
    (all_silent c.args.round.now c.args.seat c.args.asked c.args.end c.args.begin ms (c.is_common_seat.ensures c.if-not-is_common_seat.false) c.requires.order c.requires.older
    (λ m a b. let l : c.args.asked ≤ m = omega (arith, a) in c.requires.there m l b)
    c.requires.moves all)

pub loop-process-preserved : goal.loop-process-preserved
loop-process-preserved c =
    let r = c.args.round.now in
    let n = c.loop-process.process in
    let old : List Move = c.args.moves.now.items in
    let mid : List Move = c.loop-process.moves.items in
    let low : c.args.asked ≤ n = omega (arith, c.loop-process.auto.process) in
    let high : n < c.args.end = search rules in
    let older : c.args.asked + 1 < length r.live.now.state.stands = omega (arith, c.requires.order, c.requires.older) in
    let younger : n + 1 < length r.live.now.state.stands = omega (arith, high, c.requires.older) in
    let is : c.len-behind.result ≡ length old = search (rules, c.len-behind.ensures) in
    let added : c.add_copies.new.moves.items ≡ mid ++ map (by_process n) (drop c.args.begin (take c.len-behind.result mid)) = search (rules, c.in_ok-add_copies.ensures) in
    record {
      same = one_shared r c.args.seat c.args.asked n c.args.begin c.len-behind.result c.add_copies.new.moves.items mid old _ (c.is_common_seat.ensures c.if-not-is_common_seat.false) older younger
          (c.requires.there n low high) c.requires.moves is c.loop-process.invariant.kept added c.loop-process.invariant.same;
      kept = kept_on c.add_copies.new.moves.items mid old c.add_copies.ensures.kept c.loop-process.invariant.kept;
    }
