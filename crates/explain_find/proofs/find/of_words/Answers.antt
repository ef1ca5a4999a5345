use Rattle.std.proofs.Common.{List, sym, subst}
use Rattle.pml_token.specs.Word.{Word}
use Rattle.promela_text.specs.Inlines.{IsExpanded}
use Rattle.explain_find.proofs.Telling.{told_words}
use Rattle.explain_find.proofs.find.of_words.Goals as goal

pub returns-in-Ok : goal.returns-in-Ok
returns-in-Ok c =
    told_words c.args.tokens.now c.deref.result.now c.args.refusal c.of_expanded.result
    (subst (λ (us : List Word). IsExpanded c.args.tokens.now us) (sym c.deref.ensures.value) c.in-Ok.ensures.ok) c.of_expanded.ensures
