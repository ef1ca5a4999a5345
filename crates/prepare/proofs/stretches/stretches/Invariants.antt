use Rattle.std.proofs.Common.{◌-◌, length}
use Rattle.prepare.proofs.Turning.{Reached}
use Rattle.prepare.proofs.stretches.stretches.Given as goal

abbrev pub invariant-loop-gap : goal.invariant-loop-gap
invariant-loop-gap l = Reached l.text l.stretches.items l.fresh l.context l.gap l.from

abbrev pub decreases-loop-gap : goal.decreases-loop-gap
decreases-loop-gap l = length l.from - l.gap
