use Rattle.std.proofs.Common.{refl, subst, ℕ, List, codes}
use Rattle.view_tokens.specs.Printed.{Writes}
use Rattle.view_json.specs.Objects.{count, member, text}
use Rattle.view_json.specs.Lines.{faulted}
use Rattle.view_json.specs.Choices.{told_choices}
use Rattle.view_json.proofs.Writing.{chained, closes, behind}
use Rattle.view_json.proofs.Stepped.{as_back}
use Rattle.view_json.proofs.lines.add_fault.Goals as goal

pub returns : goal.returns
returns c =
    let more = c.details.ensures in
    let told = c.told_choices.ensures in
    let rest = chained _ _ _ _ _ (subst (λ (n : ℕ). Writes c.args.front c.number-2.new.json (member (codes "fault") (count n))) c.number.ensures c.number-2.ensures)
    (chained _ _ _ _ _ (subst (λ (bs : List ℕ). Writes c.number-2.new.json c.text.new.json (member (codes "words") (text bs))) c.of_fault.ensures c.text.ensures)
    (chained _ _ _ _ _ more.2 (chained _ _ _ _ _ told.2 c.end_object.ensures))) in (
      more.0,
      more.1,
      told.0,
      told.1,
      (
        closes _ _ _ _ _ _ (λ calm. refl) rest c.end_line.ensures.line c.end_line.ensures.refused,
        λ calm. as_back c.end_line.new.out c.end_object.new.self _ (behind _ _ _ _ (λ calm. refl) rest) c.end_line.ensures.reads_back c.end_line.ensures.refused calm,
      ),
    )
