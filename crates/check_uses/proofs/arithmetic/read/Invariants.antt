use Rattle.std.proofs.Common.{◌≡◌, ◌<◌, drop}
use Rattle.promela_model.specs.Names.{spelled}
use Rattle.check_uses.proofs.arithmetic.read.Given as goal

abbrev pub invariant-loop-digit : goal.invariant-loop-digit
invariant-loop-digit l = record { same : spelled l.so_far (drop l.digit-index l.digits) ≡ spelled 0 l.digits; small : l.so_far < 4294967296 }
