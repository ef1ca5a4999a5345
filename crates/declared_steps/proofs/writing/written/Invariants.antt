use Rattle.std.proofs.Common.{◌≡◌, take}
use Rattle.declared_steps.specs.Writing.{written}
use Rattle.declared_steps.proofs.writing.written.Given as goal

abbrev pub invariant-loop-changed : goal.invariant-loop-changed
invariant-loop-changed l = l.out.items ≡ written (take l.changed-index l.all)
