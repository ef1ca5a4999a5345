use Rattle.std.proofs.Common.{rules, ◌≡◌, ◌<◌, ◌≤◌, List, [], map, length, sym, ap, ◌∙◌, arith}
use Rattle.std.proofs.lemmas.List.{length-map}
use Rattle.promela_process.specs.Offers.{Offer}
use Rattle.run_state.specs.declared.body.Body.{Body}
use Rattle.run_search.specs.declared.demand.Demand.{Demand}
use Rattle.run_search.specs.Demands.{may_take}
use Rattle.run_state.specs.Standing.{shows, edges_at, offers_at}
use Rattle.promela_run.specs.Moves.{pairs_on}
use Rattle.run_state.proofs.Placing.{level_is}
use Rattle.run_search.proofs.Waiting.{last_skips, last_over}
use Rattle.run_search.proofs.demands.demand_down.Goals as goal

pub loop-level-preserved : goal.loop-level-preserved
loop-level-preserved c = λ k m d.
    let b : Body = c.args.body.now in
    let l : c.loop-level.level < length (edges_at b c.args.node) = search (rules, c.loop-level-test.true, c.level_count-level-end.ensures) in
    let at = level_is b c.args.node c.loop-level.level c.level-edges.result.now c.level-edges.ensures l in
    last_skips (pairs_on c.args.live.now.state c.args.timeout k m c.args.j) (offers_at b c.args.node) c.loop-level.level [] at.0
    (ap (λ (os : List Offer). pairs_on c.args.live.now.state c.args.timeout k m c.args.j c.loop-level.level os) (sym at.1) ∙ c.demand_on-demand.ensures.other k m c.loop-level.level d)
    ∙ c.loop-level.invariant k m (c.demand_on-demand.ensures.one m d)

pub returns-clause-demands : goal.returns-clause-demands
returns-clause-demands c = λ k m d.
    let many : length (offers_at c.args.body.now c.args.node) ≡ length (edges_at c.args.body.now c.args.node) = length-map (edges_at c.args.body.now c.args.node) (map (shows c.args.body.now)) in
    let over : length (offers_at c.args.body.now c.args.node) ≤ c.loop-level.level = omega (arith, c.loop-level-test.false, c.level_count-level-end.ensures, many) in
    sym (c.loop-level.invariant k m (ap (λ (w : Demand). may_take w.interests m) (sym c.with_unknown.ensures) ∙ d)) ∙ last_over (pairs_on c.args.live.now.state c.args.timeout k m c.args.j) (offers_at c.args.body.now c.args.node) c.loop-level.level over
