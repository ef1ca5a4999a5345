use Rattle.std.proofs.Common.{ℕ, List, sym, subst}
use Rattle.promela_model.specs.declared.mark.Mark.{Mark}
use Rattle.explain_find.specs.Told.{NoTree, AreMarks}
use Rattle.explain_find.proofs.Telling.{ok_of, told_list}
use Rattle.explain_find.proofs.find.of_list.Goals as goal

pub returns-in-Ok-Ok : goal.returns-in-Ok-Ok
returns-in-Ok-Ok c =
    told_list c.args.list.now c.args.refusal c.as_slice.result.now c.of_marks.result
    (subst (λ (ms : List Mark). AreMarks c.args.list.now ms) (sym c.as_slice.ensures)
    (ok_of c.in-Ok-Ok.field-0 c.in-Ok-Ok.marks (AreMarks c.args.list.now) (λ (line : ℕ). NoTree c.args.list.now) c.in-Ok-Ok.field-0-is c.in-Ok-Ok.ensures))
    c.of_marks.ensures
