use Rattle.std.proofs.Common.{rules}
use Rattle.std.proofs.lemmas.Int.{wraps}
use Rattle.check_uses.proofs.arithmetic.apply.Goals as goal

pub returns-in-Plus : goal.returns-in-Plus
returns-in-Plus c = rw c.in-Plus.is (search (rules, wraps))

pub returns-in-Minus : goal.returns-in-Minus
returns-in-Minus c = rw c.in-Minus.is (search (rules, wraps))
