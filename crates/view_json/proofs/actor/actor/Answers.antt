use Rattle.std.proofs.Common.{subst, ℕ, codes}
use Rattle.view_tokens.specs.Printed.{Writes}
use Rattle.view_json.specs.Objects.{count, member}
use Rattle.view_json.proofs.Writing.{chained}
use Rattle.view_json.proofs.actor.actor.Goals as goal

pub returns : goal.returns
returns c =
    chained _ _ _ _ _ c.picked.ensures
    (subst (λ (n : ℕ). Writes c.picked.new.json c.number.new.json (member (codes "next") (count n))) c.next_of.ensures c.number.ensures)
