use Rattle.std.proofs.Common.{sym, subst, List, ℕ}
use Rattle.serde_json.specs.View.{view}
use Rattle.model_names.specs.Told.{AreMeant}
use Rattle.lsp_answers.proofs.Telling.{held, answered_by, nothing_by, answered_on, all_answered_on}
use Rattle.lsp_answers.proofs.answers.answer.Goals as goal

pub told_of-requires : goal.told_of-requires
told_of-requires c =
    subst (λ (t : List ℕ). AreMeant t c.in-Some-names.names.now.meant.items) (sym c.page-page.ensures.text)
    (held (λ n. AreMeant c.args.document.now.known n.now.meant.items) c.names.result c.in-Some-names.names c.in-Some-names.is c.names.ensures)

pub returns-in-Some-names : goal.returns-in-Some-names
returns-in-Some-names c =
    all_answered_on c.args.question c.args.document.now c.args.unit (view c.args.message.now) c.page-page.result c.page-page.ensures.text c.page-page.ensures.uri
    c.page-page.ensures.unit c.told_of.result
    (answered_by c.args.question c.page-page.result (view c.args.message.now) (view c.in-Some.parameters.now) c.in-Some-names.names.now (sym c.in-Some.ensures)
    (subst (λ (t : List ℕ). AreMeant t c.in-Some-names.names.now.meant.items) (sym c.page-page.ensures.text)
    (held (λ n. AreMeant c.args.document.now.known n.now.meant.items) c.names.result c.in-Some-names.names c.in-Some-names.is c.names.ensures))
    c.told_of.result c.told_of.ensures)

pub returns-in-None : goal.returns-in-None
returns-in-None c =
    answered_on c.args.question c.args.document.now c.args.unit (view c.args.message.now) c.page-page.result c.page-page.ensures.text c.page-page.ensures.uri
    c.page-page.ensures.unit c.without_names.result
    (nothing_by c.args.question c.page-page.result (view c.args.message.now) c.without_names.result c.without_names.ensures)
