use Rattle.std.proofs.Common.{subst, ℕ, codes}
use Rattle.view_tokens.specs.Printed.{Writes}
use Rattle.view_json.specs.Objects.{count, member}
use Rattle.view_json.proofs.Writing.{chained}
use Rattle.view_json.proofs.start.proctype.Goals as goal

pub returns : goal.returns
returns c =
    chained _ _ _ _ _ c.begin_object.ensures
    (chained _ _ _ _ _
    (chained _ _ _ _ _ c.proctype_name.ensures
    (subst (λ (n : ℕ). Writes c.proctype_name.new.json c.number.new.json (member (codes "end") (count n))) c.line.ensures c.number.ensures))
    c.end_object.ensures)
