use Rattle.std.proofs.Common.{◌∙◌, ap, sym, Option, false}
use Rattle.std.specs.Prelude.{option_map}
use Rattle.run_search.specs.declared.picked.Offered.{Offered}
use Rattle.run_state.specs.Standing.{shows}
use Rattle.std.specs.Option.{option_map_or}
use Rattle.promela_process.specs.Offers.{Offer}
use Rattle.view_json.specs.Known.{has_deal}
use Rattle.view_json.proofs.known.deals_at.Goals as goal

pub returns-in-Some : goal.returns-in-Some
returns-in-Some c =
    let offer = ap (λ (o : Option Offered). option_map (λ (x : Offered). shows x.body x.edge.now) o) (sym c.in-Some.is) ∙ c.picked.ensures.offer in
    c.deals.ensures ∙ ap has_deal c.basic.ensures ∙ ap (λ (o : Option Offer). option_map_or (λ (x : Offer). has_deal x.basic) o false) offer
