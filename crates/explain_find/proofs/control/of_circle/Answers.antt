use Rattle.explain_find.proofs.Circling.{told_circle}
use Rattle.explain_find.proofs.control.of_circle.Goals as goal

pub returns-in-Some-goto : goal.returns-in-Some-goto
returns-in-Some-goto c = λ t spells.
    told_circle t c.in_ok-circle.field-0 c.in-Some.circle c.in-Some-goto.goto c.told_circle.result.place
    (c.in_ok-circle.ensures t spells) c.in-Some.is c.in-Some-goto.is c.told_circle.ensures
