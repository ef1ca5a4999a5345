use Rattle.std.proofs.Common.{rules}
use Rattle.std.proofs.lemmas.Int.{wraps}
use Rattle.check_uses.proofs.arithmetic.negative.Goals as goal

pub returns-in-Is : goal.returns-in-Is
returns-in-Is c = rw c.in-Is.is (search (rules, wraps))
