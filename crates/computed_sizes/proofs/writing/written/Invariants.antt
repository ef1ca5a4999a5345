use Rattle.std.proofs.Common.{◌≡◌, take}
use Rattle.computed_sizes.specs.Resizing.{written}
use Rattle.computed_sizes.proofs.writing.written.Given as goal

abbrev pub invariant-loop-changed : goal.invariant-loop-changed
invariant-loop-changed l = l.out.items ≡ written (take l.changed-index l.all)
