use Rattle.std.proofs.Common.{sym, subst}
use Rattle.run_state.specs.declared.body.Body.{Body}
use Rattle.run_state.specs.Standing.{StandsIn}
use Rattle.run_search.proofs.Waiting.{demands_in, demands_down, none_in}
use Rattle.run_search.proofs.demands.demand_of.Goals as goal

pub returns-in-Some-only_level : goal.returns-in-Some-only_level
returns-in-Some-only_level c =
    let s = c.args.live.now.state in
    let b : Body = c.in-Some.body in
    let es = c.in-Some-only_level.edges.now in
    demands_in c.args.seat b s c.args.timeout c.args.j c.demand_on.result es c.in-Some.ensures.left c.in-Some-only_level.ensures
    (λ k m l d. c.demand_on.ensures.other k m l d)
    (none_in c.args.seat b s c.args.timeout c.args.j c.demand_on.result.own es c.in-Some.ensures.left c.in-Some-only_level.ensures c.demand_on.ensures.idle)

pub returns-in-None : goal.returns-in-None
returns-in-None c =
    demands_down c.args.seat c.lent.result c.args.live.now.state c.args.timeout c.args.j c.demand_down.result
    (subst (λ (b : Body). StandsIn c.args.live.now.state c.args.seat b) (sym c.lent.ensures) c.in-Some.ensures.left)
    c.demand_down.ensures.demands c.demand_down.ensures.own
