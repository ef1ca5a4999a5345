use Rattle.std.proofs.Common.{subst, Option}
use Rattle.std.specs.Option.{IfSome}
use Rattle.serde_json.specs.View.{view}
use Rattle.model_verdicts.specs.declared.exchange.ExchangedPart.{ExchangedPart}
use Rattle.model_verdicts.specs.Better.{IsOffered}
use Rattle.lsp_results.proofs.Offering.{one_by, none_by}
use Rattle.lsp_results.proofs.actions.actions.Goals as goal

pub returns-in-Some : goal.returns-in-Some
returns-in-Some c = one_by c.args.page c.in-Some.exchange view c.only.result
    (subst (λ (o : Option ExchangedPart). IfSome o (λ (e : ExchangedPart). IsOffered e c.args.page.text.now)) c.in-Some.is c.in_ok-exchange.ensures)
    c.only.ensures

pub returns-in-None : goal.returns-in-None
returns-in-None c = none_by c.args.page view c.none.result c.none.ensures
