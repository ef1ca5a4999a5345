use Rattle.std.proofs.Common.{rules, ◌+◌, ◌<◌, List, get_or, length, sym, subst}
use Rattle.run_search.specs.declared.demand.Demand.{Demand}
use Rattle.run_search.specs.declared.demand.Interests.TheVariants.{Nothing}
use Rattle.run_search.specs.declared.demand.OwnMoves.TheVariants.{Unknown}
use Rattle.run_search.specs.declared.listeners.Span.{Span}
use Rattle.run_search.specs.Listeners.{spans_with, AreHeard}
use Rattle.run_state.proofs.Finding.{held}
use Rattle.run_search.proofs.Listening.{heard_one}
use Rattle.run_search.proofs.listeners.all_listeners.Goals as goal

pub loop-j-preserved : goal.loop-j-preserved
loop-j-preserved c =
    let ws : List Demand = c.args.demands.now in
    let j = c.loop-j.j in
    let l : j < length ws = search (rules, c.loop-j-test.true) in
    let d : Demand = record { interests = Nothing; own = Unknown } in
    let w : Demand = get_or ws j d in
    let one = heard_one ws c.loop-j.spans.items c.loop-j.any w j (held ws j d l) c.loop-j.invariant in
    subst (λ (xs : List Span). AreHeard ws xs c.with_any-any.result (j + 1)) (sym c.add_listener.ensures)
    (subst (λ (x : Span). AreHeard ws (spans_with c.loop-j.spans.items w.interests j) x (j + 1)) (sym c.with_any-any.ensures) one)
