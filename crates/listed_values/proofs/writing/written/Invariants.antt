use Rattle.std.proofs.Common.{◌≡◌, take}
use Rattle.listed_values.specs.Writing.{written}
use Rattle.listed_values.proofs.writing.written.Given as goal

abbrev pub invariant-loop-changed : goal.invariant-loop-changed
invariant-loop-changed l = l.out.items ≡ written l.set (take l.changed-index l.all)
