use Rattle.std.proofs.Common.{◌≡◌, subst, Option, Some, IfSome}
use Rattle.serde_json.specs.View.{view}
use Rattle.serde_json.specs.declared.value.Value.{Value}
use Rattle.lsp_results.specs.declared.page.Page.{Page}
use Rattle.lsp_results.specs.Lines.{AreFolds}
use Rattle.lsp_answers.specs.Aids.{IsFolded, folded}
use Rattle.lsp_answers.proofs.folds.folds.Goals as goal

told_by : (page : Page) (o : Option Value) (v : Value) → o ≡ Some v → IfSome o (λ x. AreFolds page (view x)) → AreFolds page (view v)
told_by page o v is h = subst (λ (x : Option Value). IfSome x (λ y. AreFolds page (view y))) is h

pub returns-in-Some : goal.returns-in-Some
returns-in-Some c = folded (told_by c.args.page c.in_ok-told.field-0 c.in-Some.told c.in-Some.is c.in_ok-told.ensures)
