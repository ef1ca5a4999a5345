use Rattle.std.proofs.Common.{◌≡◌, List, length, sym, ap, ◌∙◌, subst}
use Rattle.run_search.specs.declared.demand.Demand.{Demand}
use Rattle.run_search.specs.declared.listeners.Span.{Span}
use Rattle.run_search.specs.Demands.{AreDemands}
use Rattle.run_search.specs.Listeners.{AreHeard}
use Rattle.run_search.proofs.Listening.{known_all}
use Rattle.run_search.proofs.search.add_moves_knowing.Goals as goal

pub add_moves_of_many-requires : goal.add_moves_of_many-requires
add_moves_of_many-requires c =
    let s = c.args.live.now.state in
    let any : Span = c.in_ok-heard.heard.any in
    let ws : List Demand = c.as_slice-2.result.now in
    let heard : c.as_slice.result.now ≡ ws = c.as_slice.ensures.value ∙ sym c.as_slice-2.ensures.value in
    known_all s c.args.timeout (record { demands = c.as_slice-2.result; spans = c.as_slice-3.result; any = any })
    (subst (λ (zs : List Demand). AreDemands s c.args.timeout zs) (sym c.as_slice-2.ensures.value) c.in_ok-demands.ensures.demands)
    (ap length c.as_slice-2.ensures.value ∙ c.in_ok-demands.ensures.many)
    (subst (λ (xs : List Span). AreHeard ws xs any (length ws)) (sym c.as_slice-3.ensures.value)
    (subst (λ (zs : List Demand). AreHeard zs c.in_ok-heard.heard.spans.items any (length zs)) heard c.in_ok-heard.ensures))
