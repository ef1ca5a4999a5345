use Rattle.std.proofs.Common.{◌≡◌, length}
use Rattle.listed_values.specs.Settings.{alone_from, is_alone}
use Rattle.listed_values.proofs.settings.is_alone.Given as goal

abbrev pub invariant-loop-rest : goal.invariant-loop-rest
invariant-loop-rest l = alone_from l.name l.course l.count l.rest ≡ is_alone l.name l.stretches

abbrev pub decreases-loop-rest : goal.decreases-loop-rest
decreases-loop-rest l = length l.rest
