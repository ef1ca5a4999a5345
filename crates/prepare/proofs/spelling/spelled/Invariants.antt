use Rattle.std.proofs.Common.{◌≡◌, take}
use Rattle.prepare.specs.Spelling.{spelled}
use Rattle.prepare.proofs.spelling.spelled.Given as goal

abbrev pub invariant-loop-stretch : goal.invariant-loop-stretch
invariant-loop-stretch l = l.out.items ≡ spelled (take l.stretch-index l.stretches)
