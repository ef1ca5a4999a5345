use Rattle.std.proofs.Common.{sym, ◌∙◌, subst}
use Rattle.pml_lex.proofs.Longest.{IsNext, IsNextAt}
use Rattle.pml_lex.proofs.Scan.{next_is}
use Rattle.prepare.proofs.stretches.lexeme_at.Goals as goal

pub returns-in-Some-clause-some : goal.returns-in-Some-clause-some
returns-in-Some-clause-some c =
    let at : IsNextAt c.args.fresh c.args.text.now c.in-Some.found.0 c.in-Some.found.1 = subst (IsNext c.args.fresh c.args.text.now) (sym c.next.ensures.value ∙ c.in-Some.is) (next_is c.args.fresh c.args.text.now c.requires) in
    at.some
