use Rattle.std.proofs.Common.{◌≡◌, ◌++◌, ◌-◌, ◌≤◌}
use Rattle.listed_values.specs.Lists.{nexts}
use Rattle.listed_values.specs.Settings.{settings}
use Rattle.listed_values.proofs.settings.add_settings.Given as goal

abbrev pub invariant-loop-at : goal.invariant-loop-at
invariant-loop-at l = (l.out.items ≡ l.initial.out.items ++ settings l.name l.values l.at) × ((l.rest ≡ nexts l.at l.values) × (l.at ≤ l.size))

abbrev pub decreases-loop-at : goal.decreases-loop-at
decreases-loop-at l = l.size - l.at
