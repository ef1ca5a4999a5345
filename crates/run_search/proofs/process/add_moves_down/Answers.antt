use Rattle.std.proofs.Common.{rules, ◌≡◌, ℕ, ◌+◌, ◌-◌, ◌<◌, ◌++◌, ◌∙◌, List, [], map, drop, length, ap, arith}
use Rattle.promela_process.specs.Offers.{Offer}
use Rattle.promela_run.specs.declared.moves.Move.{Move}
use Rattle.run_state.specs.declared.body.Body.{Body}
use Rattle.run_state.specs.Standing.{shows, edges_at}
use Rattle.promela_run.specs.Moves.{last, moves_on}
use Rattle.run_state.proofs.Placing.{level_is}
use Rattle.run_search.proofs.Searching.{ends, goes_on}
use Rattle.run_search.proofs.process.add_moves_down.Goals as goal

pub returns-then-len-before-clause-added : goal.returns-then-len-before-clause-added
returns-then-len-before-clause-added c =
    let f : ℕ → List Offer → List Move = moves_on c.args.round.now.live.now.state c.args.process c.args.round.now.timeout c.args.body.now.proctype.now.body in
    let b : Body = c.args.body.now in
    let ls : List (List Offer) = map (map (shows b)) (edges_at b c.args.node) in
    let k = c.loop-level.level - 1 in
    let l : k < length (edges_at b c.args.node) = omega (arith, c.loop-level.invariant.within, c.loop-level-test.true) in
    let at = level_is b c.args.node k c.level-edges.result.now c.level-edges.ensures l in
    let n : k + 1 ≡ c.loop-level.level = omega (arith, c.loop-level-test.true) in
    let above : last f (k + 1) (drop (k + 1) ls) ≡ [] = ap (λ (i : ℕ). last f i (drop i ls)) n ∙ c.loop-level.invariant.above in
    let p : c.len-before.result ≡ length c.args.moves.now.items = search (rules, c.len-before.ensures) in
    let q : c.len.result ≡ length c.add_moves_on.new.moves.items = search (rules, c.len.ensures) in
    let e0 : c.add_moves_on.new.moves.items ≡ c.loop-level.moves.items ++ f k (map (shows b) c.level-edges.result.now) = search (rules, c.in_ok-add_moves_on.ensures) in
    let e : c.add_moves_on.new.moves.items ≡ c.args.moves.now.items ++ f k (map (shows b) c.level-edges.result.now) = e0 ∙ ap (λ (z : List Move). z ++ f k (map (shows b) c.level-edges.result.now)) c.loop-level.invariant.same in
    let r = ends f [] c.args.moves.now.items c.add_moves_on.new.moves.items c.len-before.result c.len.result k (map (shows b) c.level-edges.result.now) ls at.0 at.1 above e p q c.if-len-before.true in
    r

pub loop-level-preserved : goal.loop-level-preserved
loop-level-preserved c =
    let f : ℕ → List Offer → List Move = moves_on c.args.round.now.live.now.state c.args.process c.args.round.now.timeout c.args.body.now.proctype.now.body in
    let b : Body = c.args.body.now in
    let ls : List (List Offer) = map (map (shows b)) (edges_at b c.args.node) in
    let k = c.loop-level.level - 1 in
    let l : k < length (edges_at b c.args.node) = omega (arith, c.loop-level.invariant.within, c.loop-level-test.true) in
    let at = level_is b c.args.node k c.level-edges.result.now c.level-edges.ensures l in
    let n : k + 1 ≡ c.loop-level.level = omega (arith, c.loop-level-test.true) in
    let above : last f (k + 1) (drop (k + 1) ls) ≡ [] = ap (λ (i : ℕ). last f i (drop i ls)) n ∙ c.loop-level.invariant.above in
    let p : c.len-before.result ≡ length c.args.moves.now.items = search (rules, c.len-before.ensures) in
    let q : c.len.result ≡ length c.add_moves_on.new.moves.items = search (rules, c.len.ensures) in
    let e0 : c.add_moves_on.new.moves.items ≡ c.loop-level.moves.items ++ f k (map (shows b) c.level-edges.result.now) = search (rules, c.in_ok-add_moves_on.ensures) in
    let e : c.add_moves_on.new.moves.items ≡ c.args.moves.now.items ++ f k (map (shows b) c.level-edges.result.now) = e0 ∙ ap (λ (z : List Move). z ++ f k (map (shows b) c.level-edges.result.now)) c.loop-level.invariant.same in
    let r = goes_on f [] c.args.moves.now.items c.add_moves_on.new.moves.items c.len-before.result c.len.result k (map (shows b) c.level-edges.result.now) ls at.0 at.1 above e p q c.if-len-before.false in
    record { same = r.0; within = omega (arith, c.loop-level.invariant.within); above = r.1 }
