use Rattle.explain_find.proofs.Telling.{told_at}
use Rattle.explain_find.proofs.find.of_tokens.Goals as goal

pub returns-in-Ok : goal.returns-in-Ok
returns-in-Ok c =
    told_at c.args.text.now c.args.tokens.now c.args.refusal c.in-Ok.finding.place c.there.result.place
    c.requires c.there.ensures.same c.there.ensures.lies c.in-Ok.ensures
