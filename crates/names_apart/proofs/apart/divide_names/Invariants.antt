use Rattle.std.proofs.Common.{◌-◌, length}
use Rattle.names_apart.specs.Apart.{IsApart}
use Rattle.names_apart.proofs.apart.divide_names.Given as goal

abbrev pub invariant-loop-at : goal.invariant-loop-at
invariant-loop-at l = IsApart l.joint.items l.fn.text.items l.text.items

abbrev pub decreases-loop-at : goal.decreases-loop-at
decreases-loop-at l = length l.names - l.at
