use Rattle.std.proofs.Common.{◌∙◌, ap, sym, subst, Option}
use Rattle.std.specs.Prelude.{IfSome, option_map}
use Rattle.run_search.specs.declared.picked.Offered.{Offered}
use Rattle.run_search.specs.Picked.{IsPicked}
use Rattle.run_state.specs.Standing.{shows}
use Rattle.view_json.proofs.Choices.{next_is}
use Rattle.view_json.proofs.known.seen_from.Goals as goal

pub returns-in-Some-clause-next : goal.returns-in-Some-clause-next
returns-in-Some-clause-next c =
    let s = c.args.live.now.state in
    let k = c.args.pick in
    let it = c.in-Some.offer in
    let offer = ap (λ (o : Option Offered). option_map (λ (x : Offered). shows x.body x.edge.now) o) (sym c.in-Some.is) ∙ c.picked.ensures.offer in
    let is = subst (λ (o : Option Offered). IfSome o (λ (x : Offered). IsPicked s k x.body)) c.in-Some.is c.picked.ensures.is in
    c.line_at_seat.ensures ∙ next_is s k c.args.seat it.body it.edge.now c.requires offer is
