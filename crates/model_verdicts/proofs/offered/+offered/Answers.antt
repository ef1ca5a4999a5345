use Rattle.model_verdicts.proofs.Offering.{refused_by, here_by, behind_by}
use Rattle.model_verdicts.proofs.offered.+offered.Goals as goal

pub returns-then-touches : goal.returns-then-touches
returns-then-touches t c =
    here_by c.args.text.now c.in-Some.verdict c.mending.result
    (refused_by c.args.text.now c.in_ok-verdict.field-0 c.in-Some.verdict c.in-Some.is c.in_ok-verdict.ensures)
    c.mending.ensures

pub returns-in-Some-2 : goal.returns-in-Some-2
returns-in-Some-2 t c =
    behind_by c.args.text.now c.deref.result.now c.in-Some-place.place.offset c.in_ok-rest.field-0 c.in-Some-2.rest c.offered.result c.in-Some-2.is
    c.deref.ensures.value c.in_ok-rest.ensures c.offered.ensures
