-- What is offered.
use Rattle.std.proofs.Common.{◌≡◌, Result, IfOk, Ok, Err}
use Rattle.serde_json.specs.Data.{Data, array, item, no_items}
use Rattle.lsp_results.specs.declared.page.Page.{Page}
use Rattle.model_verdicts.specs.declared.exchange.ExchangedPart.{ExchangedPart}
use Rattle.model_verdicts.specs.Better.{IsOffered}
use Rattle.lsp_results.specs.Actions.{action_of, AreActions, nothing, one}

-- the list of one that is offered
pub one_by : {V E : Type 0} (page : Page) (e : ExchangedPart) (seen : V → Data) (r : Result V E) → IsOffered e page.text.now
    → IfOk r (λ v. seen v ≡ array (item (action_of page e) no_items)) → IfOk r (λ v. AreActions page (seen v))
one_by page e seen (Err x) offered is = tt
one_by page e seen (Ok v) offered is = one e offered is

-- the list of none
pub none_by : {V E : Type 0} (page : Page) (seen : V → Data) (r : Result V E) → IfOk r (λ v. seen v ≡ array no_items) → IfOk r (λ v. AreActions page (seen v))
none_by page seen (Err x) is = tt
none_by page seen (Ok v) is = nothing is
