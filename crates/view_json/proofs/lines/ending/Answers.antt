use Rattle.std.proofs.Common.{subst, ℕ, codes}
use Rattle.view_tokens.specs.Printed.{Writes}
use Rattle.view_json.specs.Objects.{count, member}
use Rattle.view_json.proofs.Writing.{chained}
use Rattle.view_json.proofs.lines.ending.Goals as goal

pub returns : goal.returns
returns c =
    chained _ _ _ _ _ c.named.ensures
    (chained _ _ _ _ _ (subst (λ (n : ℕ). Writes c.named.new.json c.number.new.json (member (codes "line") (count n))) c.line_of.ensures c.number.ensures) c.text.ensures)
