use Rattle.std.proofs.Common.{◌≡◌, length}
use Rattle.listed_values.specs.Settings.{setup_by, setup}
use Rattle.listed_values.proofs.settings.setup_of.Given as goal

abbrev pub invariant-loop-rest : goal.invariant-loop-rest
invariant-loop-rest l = setup_by l.stretches l.course l.set.items l.starts l.odd l.rest ≡ setup l.stretches

abbrev pub decreases-loop-rest : goal.decreases-loop-rest
decreases-loop-rest l = length l.rest
