use Rattle.explain_find.proofs.Telling.{some_of, told_broken}
use Rattle.explain_find.proofs.find.of_marks.Goals as goal

pub returns-in-Ok-Some : goal.returns-in-Ok-Some
returns-in-Ok-Some c = λ t spells same.
    told_broken c.args.tokens.now t c.args.refusal c.args.marks.now c.in-Ok-Some.broken c.of_mark.result same
    (some_of c.in-Ok-Some.field-0 c.in-Ok-Some.broken _ _ c.in-Ok-Some.field-0-is c.in-Ok-Some.ensures) (c.of_mark.ensures t spells)
