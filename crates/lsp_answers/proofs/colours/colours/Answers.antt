use Rattle.std.proofs.Common.{◌≡◌, sym, subst, Option, Some, IfSome}
use Rattle.serde_json.specs.View.{view}
use Rattle.serde_json.specs.declared.value.Value.{Value}
use Rattle.lsp_results.specs.declared.page.Page.{Page}
use Rattle.lsp_results.specs.declared.colours.AskedPart.{AskedPart}
use Rattle.lsp_results.specs.Tokens.{AreColours}
use Rattle.lsp_answers.specs.Colours.{AreTold, colours}
use Rattle.lsp_answers.proofs.colours.colours.Goals as goal

told_by : (page : Page) (part : AskedPart) (o : Option Value) (v : Value) → o ≡ Some v → IfSome o (λ x. AreColours page part (view x)) → AreColours page part (view v)
told_by page part o v is h = subst (λ (x : Option Value). IfSome x (λ y. AreColours page part (view y))) is h

pub returns-in-Some-2 : goal.returns-in-Some-2
returns-in-Some-2 c =
    colours c.in-Some.part (sym c.in-Some.ensures)
    (told_by c.args.page c.in-Some.part c.in_ok-told.field-0 c.in-Some-2.told c.in-Some-2.is c.in_ok-told.ensures)
