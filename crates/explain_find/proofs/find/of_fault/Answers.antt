use Rattle.std.proofs.Common.{subst}
use Rattle.promela_text.specs.declared.inline_fault.InlineError.{InlineError}
use Rattle.pml_inline.specs.Least.{IsLeast}
use Rattle.explain_find.proofs.Telling.{told_misused}
use Rattle.explain_find.proofs.find.of_fault.Goals as goal

pub returns-in-Inline : goal.returns-in-Inline
returns-in-Inline c = λ x.
    told_misused c.args.tokens.now c.in-Inline.misuse x c.of_misuse.result.place
    (subst (λ (f : InlineError). IsLeast c.args.tokens.now f) c.in-Inline.is c.requires) c.of_misuse.ensures
