use Rattle.std.proofs.Common.{subst}
use Rattle.pml_lex.specs.declared.fault.LexError.{LexError}
use Rattle.explain_tokens.specs.Placed.{IsUnplaced}
use Rattle.explain_find.proofs.Telling.{told_uncut}
use Rattle.explain_find.proofs.find.of_text.Goals as goal

pub returns-in-Lexical : goal.returns-in-Lexical
returns-in-Lexical c = λ x.
    told_uncut c.args.text.now c.in-Lexical.offset x c.at_stop.result.place
    (subst (λ (f : LexError). IsUnplaced c.args.text.now f) c.in-Lexical.is c.requires) c.at_stop.ensures
