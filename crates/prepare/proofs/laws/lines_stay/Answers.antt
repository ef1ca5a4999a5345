use Rattle.std.proofs.Common.{ℕ, ◌+◌, ap}
use Rattle.prepare.proofs.Lines.{spelled_feeds}
use Rattle.prepare.proofs.laws.lines_stay.Goals as goal

pub returns : goal.returns
returns c = λ front. ap (λ (n : ℕ). 1 + n) (spelled_feeds front)
